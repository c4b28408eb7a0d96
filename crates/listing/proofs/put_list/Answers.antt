-- By the length law there is room for the list.
use mathlib.Core.Path.{sym, ◌∙◌}
use native.Mathlib.Omega.{arith}
use borrow.Author.Tests.{leb-true}
use lib.ListN.{length}
use Rattle.refusals.proofs.Exits.{passed}
use Rattle.listing.specs.Code.Buffer.{room_for}
use Rattle.listing.proofs.Laws.{list-most}
use Rattle.listing.proofs.put_list.Goals as goal

pub put_lines-requires : goal.put_lines-requires
put_lines-requires c =
    let yes = sym c.long_enough.ensures ∙ passed _ c.unless.ensures c.in_ok-unless.was in
    let room = leb-true (room_for (length c.args.input.now)) (length c.args.out.now) yes in
    omega (arith, list-most c.args.input.now (omega arith))
