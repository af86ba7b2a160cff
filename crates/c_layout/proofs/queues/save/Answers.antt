use borrow.Author.Rules.{rules}
use Rattle.c_layout.proofs.QueueLaws.{saved_is}
use Rattle.c_layout.proofs.queues.save.Goals as goal

pub returns : goal.returns
returns c =
    saved_is c.args.queue _ _ _ _ _ (record {
      arrays = record {
        kinds = search (rules, c.well_formed);
        a = search (rules, c.well_formed);
        b = search (rules, c.well_formed);
        c = search (rules, c.well_formed.1.0.1.1);
      };
      size = c.told-words;
      kinds = c.put_array.ensures;
      a = c.put_array-2.ensures;
      b = c.put_array-3.ensures;
      c = c.put_array-4.ensures;
    })
