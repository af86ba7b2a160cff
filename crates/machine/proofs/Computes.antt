-- The definitions that the machine computes with, under one name: to unfold it is to unfold them all.
use Rattle.base_ten.specs.Numbers.{number_from, number_of}
use Rattle.base_ten.specs.Decimal.{digits}
use Rattle.notation.specs.Trees.{pairs}
use Rattle.notation.specs.Parse.{with_byte, marks_after, list_of, parsed_from, parse}
use Rattle.notation.specs.Print.{print, print_rest}
use Rattle.notation.specs.Brackets.{open_after, opens_too_many, too_deep, first_met}
use Rattle.machine.specs.Range.{every, exists, total, select, tabulate, matching, occurrences, every_of, last_of}
use Rattle.machine.specs.Words.{is_nil, is_cell, is_atom, is_legal, may_be_stored}
use Rattle.machine.specs.Table.{capacity, first_free, last_free, scratch_words, position, word_at, put_word, put_ends, put_words, put_cell, in_use, is_free}
use Rattle.machine.specs.Queue.{slot, put_slot, appended, taken, packets_from, waiting}
use Rattle.machine.specs.Packets.{kind_of, changes_of, changes, names_of, names, uses_of, uses, moved_by, waiting_change, name_changes, times_named, contains, is_named}
use Rattle.machine.specs.Counts.{held_at_least, held_at_most, pointers_from, pointers}
use Rattle.machine.specs.Reached.{is_protected, is_root, points_to, marked, spread, marks, reached_by, reached}
use Rattle.machine.specs.Calls.{field, packet_of, reads_nil, without_first, written, word_read, value_of, chained, fresh_table}
use Rattle.machine.specs.Step.{move_count, apply_changes, named, apply_packet, unreached, lower_pointers, join, join_all, swept, cleared, step_with, step_from, stepped}
use Rattle.machine.specs.Questions.{first_no, in_range, long_enough, scratch_enough, cells_in_range, number_in_range, words_legal, x_is_cell, words_storable, held_enough, slot_empty, cell_free, held_within, pointers_within, early_row, early, ask_free, late_row, late, questions}
use Rattle.machine.specs.Audit.{field_sound, cell_sound, cells_sound, walk, free_chain, laid_out, met_once, chain_sound, is_zero_packet, other_slots_zero, words_of_kind, packet_legal, names_in_use, packets_legal, replayed, replays, names_counted, packets_sound, undoable_of, undone_of, undoable, undone, before, undoes, pointers_sound, all_reached, rules, audit_reply, audited}
use Rattle.machine.specs.Texts.{build_by, atoms_storable, leaf, opened, text_for}
use Rattle.machine.specs.Questions.{in_notation, not_too_deep, text_storable, text_pairs, slots_empty, cells_free, word_held, met}
use Rattle.machine.specs.Machine.{consed, text_read, accepted, answered, machine, run, replies}

unfoldable pub computes : Unit {0}
unfolding every exists total select tabulate matching occurrences every_of last_of is_nil is_cell is_atom is_legal may_be_stored capacity first_free last_free scratch_words position word_at put_word put_ends put_words put_cell in_use is_free slot put_slot appended taken packets_from waiting kind_of changes_of changes names_of names uses_of uses moved_by waiting_change name_changes times_named contains is_named held_at_least held_at_most pointers_from pointers is_protected is_root points_to marked spread marks reached_by reached field packet_of reads_nil without_first written word_read value_of chained fresh_table move_count apply_changes named apply_packet unreached lower_pointers join join_all swept cleared step_with step_from stepped first_no in_range long_enough scratch_enough cells_in_range number_in_range words_legal x_is_cell words_storable held_enough slot_empty cell_free held_within pointers_within early_row early ask_free late_row late questions accepted answered machine run replies field_sound cell_sound cells_sound walk free_chain laid_out met_once chain_sound is_zero_packet other_slots_zero words_of_kind packet_legal names_in_use packets_legal replayed replays names_counted packets_sound undoable_of undone_of undoable undone before undoes pointers_sound all_reached rules audit_reply audited
computes = tt

-- and those of rule text
unfoldable pub computes_text : Unit {0}
unfolding number_from number_of digits with_byte marks_after list_of parsed_from parse print print_rest open_after opens_too_many too_deep first_met pairs build_by atoms_storable leaf opened text_for in_notation not_too_deep text_storable text_pairs slots_empty cells_free word_held met consed text_read
computes_text = tt
