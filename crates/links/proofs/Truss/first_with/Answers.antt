-- Down from `last`, as long as the links resist as much.
use Prim.Native.Nat.{◌+◌, ◌-◌, ◌<◌}
use mathlib.Core.Path.{◌≡◌}
use native.Mathlib.Omega.{arith}
use Rattle.links.specs.Links.{link_resistance}
use Rattle.links.proofs.Order.{links-rise}
use Rattle.links.proofs.Truss.first_with.Goals as goal

-- one tenth less, and all before it resist no more than it
pub returns-then-link_resistance-most : goal.returns-then-link_resistance-most
returns-then-link_resistance-most c =
    let l = c.loop-c in
    let x = c.args.self.now in
    let bounds = c.requires.bounds in
    let less : link_resistance x (l.c - 1) < link_resistance x c.args.last = omega (arith, c.link_resistance.ensures, c.requires.most_is) in
    let at : l.c - 1 + 1 ≡ l.c = omega arith in
    rw at record {
      low = l.invariant.0;
      high = l.invariant.1.0;
      same = l.invariant.1.1;
      worse = λ t a b. omega (arith, less, links-rise x bounds.0 t (l.c - 1) a (omega arith) (omega (arith, l.invariant.1.0, bounds.1.1)));
    }

pub loop-c-preserved : goal.loop-c-preserved
loop-c-preserved c =
    let l = c.loop-c in
    let bounds = c.requires.bounds in
    let most = links-rise c.args.self.now bounds.0 (l.c - 1) c.args.last (omega arith) (omega (arith, l.invariant.1.0)) bounds.1.1 in
    (omega arith, (omega (arith, l.invariant.1.0), omega (arith, most, c.link_resistance.ensures, c.requires.most_is)))
