-- The one set of rules by which a chain of tests on numbers is proved: each branch's fact as the test's outcome.
use borrow.Author.Rules.{rules}
use borrow.Author.Tests.{eq-eqb, ne_eqb, lt-ltb, le-ltb, le-leb, lt-leb}

pub ruleset chain = (rules, eq-eqb, ne_eqb, lt-ltb, le-ltb, le-leb, lt-leb)
