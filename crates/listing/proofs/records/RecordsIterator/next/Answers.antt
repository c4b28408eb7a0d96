-- The record at hand is the first of the readings.
use mathlib.Core.Path.{◌≡◌, sym, ap, ◌∙◌}
use mathlib.Core.List.{List, [], ◌∷◌}
use Prim.Native.Nat.{ℕ}
use borrow.Author.Rules.{rules}
use lib.ListN.{length}
use Rattle.listing.specs.Records.{readings}
use Rattle.listing.proofs.Lengths.{span}
use Rattle.listing.proofs.Following.{none_left, last_read, next_read}
use Rattle.listing.proofs.records.RecordsIterator.next.Goals as goal
use Rattle.listing.proofs.records.RecordsIterator.next.Goals.{Then-list_ends, After-split_at}

last : (c : Then-list_ends) → readings 0 c.args.self.now.rest.now ≡ c.read-reading.result ∷ readings 0 []
last c = last_read c.args.self.now.rest.now (search rules) c.read-reading.ensures.value (sym c.list_ends.ensures ∙ c.if-list_ends.true)

next : (c : After-split_at) → readings 0 c.args.self.now.rest.now ≡ c.read-reading.result ∷ readings 0 c.split_at.result.1.now
next c =
    next_read c.args.self.now.rest.now (search rules) c.read-reading.ensures.value (sym c.list_ends.ensures ∙ c.if-list_ends.false)
    ∙ ap (λ (ys : List ℕ). c.read-reading.result ∷ readings 0 ys) (sym c.split_at.ensures.back)

pub returns-then-is_empty-clause-steps : goal.returns-then-is_empty-clause-steps
returns-then-is_empty-clause-steps c =
    let none = none_left c.args.self.now.rest.now (search rules) in (none, none)

pub split_at-requires : goal.split_at-requires
split_at-requires c = rw c.read-reading.ensures.value (span c.args.self.now.rest.now).high

pub returns-then-list_ends-clause-steps : goal.returns-then-list_ends-clause-steps
returns-then-list_ends-clause-steps c = last (goal.at.returns-then-list_ends-clause-steps c).Then-list_ends

pub returns-then-list_ends-clause-goes : goal.returns-then-list_ends-clause-goes
returns-then-list_ends-clause-goes c = let fewer = ap length (last (goal.at.returns-then-list_ends-clause-goes c).Then-list_ends) in search rules

pub returns-else-list_ends-clause-steps : goal.returns-else-list_ends-clause-steps
returns-else-list_ends-clause-steps c = next (goal.at.returns-else-list_ends-clause-steps c).After-split_at

pub returns-else-list_ends-clause-goes : goal.returns-else-list_ends-clause-goes
returns-else-list_ends-clause-goes c = let fewer = ap length (next (goal.at.returns-else-list_ends-clause-goes c).After-split_at) in search rules
