use borrow.Author.Tests.{lt-ltb, le-ltb, eq-eqb, ne_eqb}
use Rattle.showcheck_output.specs.Given.{given_by}
use Rattle.showcheck_output.proofs.given.given_by.Goals as goal

pub returns-then-count-lt2 : goal.returns-then-count-lt2
unfolding given_by
returns-then-count-lt2 c = rw (lt-ltb _ 2 c.if-count-lt2.true)

pub returns-then-has_option-count : goal.returns-then-has_option-count
unfolding given_by
returns-then-has_option-count c = rw (le-ltb _ 2 c.if-count-lt2.false, ← c.has_option.ensures, c.if-has_option-count.true)

pub returns-then-not-store : goal.returns-then-not-store
unfolding given_by
returns-then-not-store c = rw (le-ltb _ 2 c.if-count-lt2.false, ← c.has_option.ensures, c.if-has_option-count.false, c.if-not-store.true)

pub returns-then-count-eq2 : goal.returns-then-count-eq2
unfolding given_by
returns-then-count-eq2 c = rw (
  le-ltb _ 2 c.if-count-lt2.false,
  ← c.has_option.ensures,
  c.if-has_option-count.false,
  c.if-not-store.false,
  eq-eqb _ 2 c.if-count-eq2.true,
)

pub returns-then-pointers : goal.returns-then-pointers
unfolding given_by
returns-then-pointers c = rw (
  le-ltb _ 2 c.if-count-lt2.false,
  ← c.has_option.ensures,
  c.if-has_option-count.false,
  c.if-not-store.false,
  ne_eqb _ 2 c.if-count-eq2.false,
  c.if-pointers.true,
)

pub returns-else-pointers : goal.returns-else-pointers
unfolding given_by
returns-else-pointers c = rw (
  le-ltb _ 2 c.if-count-lt2.false,
  ← c.has_option.ensures,
  c.if-has_option-count.false,
  c.if-not-store.false,
  ne_eqb _ 2 c.if-count-eq2.false,
  c.if-pointers.false,
)
