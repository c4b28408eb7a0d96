-- The one line has at most 47 bytes.
use mathlib.Core.Path.{sym, ap, ◌∙◌}
use native.Mathlib.Omega.{arith}
use borrow.Author.Tests.{leb-true}
use lib.Dec.{lit<}
use lib.ListN.{length}
use Rattle.clauses.specs.Check.{refused_listed}
use Rattle.listing.specs.Line.{line}
use Rattle.refusals.proofs.Exits.{passed}
use Rattle.listing.specs.Code.Buffer.{room_for}
use Rattle.listing.proofs.Longest.{refused_line}
use Rattle.listing.proofs.put_too_long.Goals as goal

pub put_line-requires : goal.put_line-requires
put_line-requires c =
    let listed = c.refused_listed-listed.ensures ∙ ap refused_listed c.number.ensures in
    let text = ap (λ a. length (line 0 a)) listed in
    let room = leb-true (room_for 0) (length c.args.out.now) (sym c.long_enough.ensures ∙ passed _ c.unless.ensures c.in_ok-unless.was) in
    omega (arith, refused_line 0 26 (lit< tt) (lit< tt))
