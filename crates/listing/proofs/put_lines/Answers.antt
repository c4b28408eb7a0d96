-- Writing the lines of the records that are left finishes the list.
use mathlib.Core.Path.{◌≡◌, ap}
use mathlib.Core.List.{List, ◌++◌}
use Prim.Native.Nat.{ℕ, ◌+◌, ◌^◌, ◌<◌}
use native.Mathlib.Omega.{arith}
use borrow.Author.Rules.{rules}
use lib.ListN.{length}
use Rattle.std.specs.Iterator.Adapters.{enumerate_source, enumerate_count}
use Rattle.clauses.specs.declared.Listed.{Listed}
use Rattle.listing.specs.Line.{line}
use Rattle.listing.specs.Records.{list_of, lines, records_left}
use Rattle.listing.proofs.Finishing.{Left, begun, line_first, next_in, has_room, finished, same_text}
use Rattle.listing.proofs.Following.{readings-few}
use Rattle.listing.proofs.put_lines.Goals as goal
use Rattle.listing.proofs.put_lines.Goals.{After-entry_of}

-- the numbers fit
pub loop-before-init-derived : goal.loop-before-init-derived
loop-before-init-derived c =
    let few = readings-few 0 c.args.input.now in
    let at_first : enumerate_count c.into_iter-before-iterator.result ≡ 0 = cc in
    let all : enumerate_source c.into_iter-before-iterator.result ≡ record { rest = c.args.input } = cc in
    let numbers : enumerate_count c.into_iter-before-iterator.result + length (records_left (enumerate_source c.into_iter-before-iterator.result)) < 2 ^ 64 =
    rw (at_first, all) (omega arith) in
    search rules

pub loop-before-init : goal.loop-before-init
unfolding list_of
loop-before-init c =
    let at_first : enumerate_count c.into_iter-before-iterator.result ≡ 0 = cc in
    let all : enumerate_source c.into_iter-before-iterator.result ≡ record { rest = c.args.input } = cc in
    rw (at_first, all) (begun _ _ _)

-- the record at hand and its line
module _ (c : After-entry_of) where
  abbrev before : ℕ
  before = enumerate_count c.loop-before.before-iterator

  abbrev entry : Listed
  entry = c.entry_of.result

  line_is : line (c.in-Some.before + 1) entry ≡ line (before + 1) entry
  line_is = ap (λ (k : ℕ). line (k + 1) entry) c.in-Some.ensures.steps.1

  -- the lines of the records after it
  abbrev others : List ℕ
  others = lines (before + 1 + 1) (records_left (enumerate_source c.next.new.self))

  left : Left c.args.out.now 0 (list_of c.args.input.now) c.loop-before.out c.loop-before.at (line (before + 1) entry ++ others)
  left = line_first (before + 1) c.in-Some.ensures.steps.0 c.entry_of.ensures c.loop-before.invariant

pub put_line-at-requires : goal.put_line-at-requires
put_line-at-requires c =
    let h = (goal.at.put_line-at-requires c).After-entry_of in
    rw (line_is h) (has_room (line (before h + 1) (entry h)) (others h) (omega (arith, c.requires)) (left h))

pub loop-before-preserved : goal.loop-before-preserved
loop-before-preserved c =
    let h = (goal.at.loop-before-preserved c).After-entry_of in
    rw c.in-Some.ensures.steps.2 (next_in (others h) (omega (arith, c.requires)) (left h) (same_text (line_is h) c.put_line-at.ensures))

-- the records end
pub returns : goal.returns
unfolding lines
returns c = finished (rw c.in-None.ensures.steps.0.0 at c.loop-before.invariant)
