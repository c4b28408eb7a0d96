-- Links and strut cross, and the cotangent is there.
use Prim.Native.Nat.{ℕ, ◌+◌, ◌≤◌}
use mathlib.Core.Path.{◌≡◌, sym, ap, ◌∙◌}
use native.Mathlib.Nat.{min-eq_left, min-eq_right}
use native.Mathlib.Omega.{arith}
use Rattle.arith.proofs.Greatest.{first_only, peak_first, peak_next, peak_at}
use Rattle.links.specs.Links.{Truss, link_resistance, strut_resistance, lesser, strut_cotangent, truss_resistance, BestCotangent}
use Rattle.links.proofs.Order.{links-rise, strut_falls}
use Rattle.links.proofs.Whole.{best_cotangent}
use Rattle.links.proofs.Truss.best_strut.Goals as goal
use Rattle.links.proofs.Truss.best_strut.Goals.{then-last-lt25+else-links-next, else-last-lt25}

-- the best cotangent is the answer, and what resists there its resistance
answered : (x : Truss) {c r : ℕ} → BestCotangent x c → r ≡ lesser x c → (c ≡ strut_cotangent x) × (r ≡ truss_resistance x)
answered x best e = let same = first_only best (best_cotangent x) in (same, e ∙ ap (lesser x) same)

-- the strut resists less at every tenth
pub returns-then-last-lt10 : goal.returns-then-last-lt10
returns-then-last-lt10 c =
    let x = c.args.self.now in
    let m = c.crossing-last.ensures.crossing in
    let above : (t : ℕ) → 10 ≤ t → t ≤ 25 → strut_resistance x t ≤ link_resistance x t = λ t l h. m.above t (omega arith) h in
    let best : BestCotangent x 10 = peak_first (links-rise x c.crossing-last.ensures.bounds) (strut_falls x c.crossing-last.ensures.bounds) (omega arith) above in
    record {
      answer = answered x best (c.strut_resistance.ensures ∙ sym (min-eq_right (above 10 (omega arith) (omega arith))));
      best = best;
    }

-- the next tenth does better
pub returns-then-links-next : goal.returns-then-links-next
returns-then-links-next c =
    let x = c.args.self.now in
    let last = c.crossing-last.result in
    let m = c.crossing-last.ensures.crossing in
    let low : 10 ≤ last = omega arith in
    let more : last + 1 ≤ 25 = omega arith in
    let best : BestCotangent x (last + 1) =
    peak_next (links-rise x c.crossing-last.ensures.bounds) (strut_falls x c.crossing-last.ensures.bounds) low m.high m.below m.above more
    (omega (arith, c.link_resistance-links.ensures, c.strut_resistance-next.ensures)) in
    record {
      answer = answered x best (c.strut_resistance-next.ensures ∙ sym (min-eq_right (m.above (last + 1) (omega arith) more)));
      best = best;
    }

-- it does not
pub returns : goal.returns
returns c =
    let x = c.args.self.now in
    let last = c.crossing-last.result in
    let m = c.crossing-last.ensures.crossing in
    let f = c.first_with.ensures in
    let low : 10 ≤ last = omega arith in
    let no-better : last + 1 ≤ 25 → strut_resistance x (last + 1) ≤ link_resistance x last = λ more.
    elim c.if-last-lt25.branch [
      | then-last-lt25+else-links-next w ↦ omega (arith, w.strut_resistance-next.ensures, c.link_resistance-links.ensures, w.if-links-next.false)
      | else-last-lt25 w ↦ absurd (omega (arith, w.if-last-lt25.false))
    ] in
    let best : BestCotangent x c.first_with.result =
    peak_at (links-rise x c.crossing-last.ensures.bounds) (strut_falls x c.crossing-last.ensures.bounds) low m.high m.below m.above
    f.low f.high f.same f.worse no-better in
    record {
      answer =
          answered x best (c.link_resistance-links.ensures ∙ sym f.same ∙ sym (min-eq_left (m.below c.first_with.result f.low f.high)));
      best = best;
    }
