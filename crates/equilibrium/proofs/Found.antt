-- What Find a depth and Moment at a depth answer: by cases of the section tests, that it is accurate, and that what is not read makes no
-- difference. Assumes nothing.
use Prim.Native.Nat.{ℕ, zero, suc, ◌*◌, ◌≤◌, ◌<◌}
use mathlib.Core.Bool.{Bool, true, false, cond, ◌&&◌, ◌||◌}
use mathlib.Core.List.{List, [], ◌∷◌}
use mathlib.Core.Path.{◌≡◌, refl, sym, ap, ◌∙◌}
use native.Mathlib.Omega.{arith}
use lib.Dec.{leb, lit≤}
use lib.IntN.{ℤ, nat_abs}
use borrow.Author.Tests.{leb-true, leb-false, le-leb, lt-leb}
use Rattle.std.specs.Prelude.{Option, None, Some, Result, Ok, Err, IfSome}
use Rattle.std.specs.Option.{option_or}
use Rattle.std.specs.Result.{result_err}
use Rattle.refusals.specs.declared.Refusal.{Refusal}
use Rattle.refusals.specs.declared.Refusal.TheVariants.{AxialForce, ForceTooHigh, DepthRange}
use Rattle.refusals.specs.Chain.{test, first_failing}
use Rattle.arith.specs.Halving.{halved, kept_up_to}
use Rattle.arith.proofs.Test.{by_cond}
use Rattle.section.specs.declared.Layer.{Layer}
use Rattle.section.specs.declared.Section.{Section}
use Rattle.section.specs.declared.Design.{Design}
use Rattle.equilibrium.specs.declared.Depth.{Depth}
use Rattle.equilibrium.specs.declared.Depth.TheVariants.{At, Beyond}
use Rattle.section.specs.Section.{layers_of, counted}
use Rattle.section.specs.Load.{force_ok}
use Rattle.section.specs.Refusals.{accepted, answer}
use Rattle.equilibrium.specs.Refusals.{carries, up_to_10h, reaches, face_tests, face_tests_of, find_depth_tests, moment_tests}
use Rattle.section.specs.Code.Usable.{Bounded, Usable}
use Rattle.beyond.specs.Depth.{least_reaching, some_depth}
use Rattle.beyond.proofs.Intervals.{reached-in}
use Rattle.equilibrium.specs.Depth as depth
use Rattle.equilibrium.specs.Depth.{depth_under, face_depth, depth_of, depth_answer, depth_for, depth_in, find_depth}
use Rattle.equilibrium.specs.Moment.{resistance_at, moment_in, moment_at, moment_found}
use Rattle.equilibrium.specs.Accuracy.{DepthPromise, PromisedDepth, AccurateFound, AccurateDepth}
use Rattle.section.proofs.Usable.{section_promise, usable_by, call_refused, call_ready, call_refusal, depths_within}
use Rattle.equilibrium.proofs.Accuracy.{depth_low, depth_high, accuracy}
use Rattle.equilibrium.proofs.Halving.{trials_by, trials_high}
use Rattle.equilibrium.proofs.Range.{resistance_within}

-- ---- Moment at a depth

module _ (s : Section) (u : ℕ) where
  -- what it finds of an accepted section, and its one test more
  abbrev resists : Design → ℤ
  resists x = resistance_at x (layers_of s) u

  abbrev in_depth : Result Design Refusal → List (Option Refusal)
  in_depth a = test DepthRange (leb 1 u && leb u (30 * nat_abs s.height)) ∷ []

  pub moment_refused : {r : Refusal} → accepted (counted s) ≡ Err r → moment_at s u ≡ Err r
  unfolding moment_in
  moment_refused e = call_refused resists (counted s) in_depth e

  pub moment_ready : {x : Design} → accepted (counted s) ≡ Ok x
      → moment_at s u ≡ answer resists (option_or (test DepthRange (leb 1 u && leb u (30 * x.h))) None) (Ok x)
  unfolding moment_in
  moment_ready {x} e =
      let height : nat_abs s.height ≡ x.h = ap nat_abs (rw e at (section_promise s)).asked.height_is in
      call_ready resists (counted s) in_depth e ∙ rw height

  pub moment_refusal : result_err (moment_at s u) ≡ first_failing (moment_tests (counted s) u)
  unfolding moment_in
  moment_refusal = call_refusal resists (counted s) in_depth

  -- the second clause of `moment_at` follows from its first
  pub moment_clauses : {r : Result ℤ Refusal} → r ≡ moment_at s u → (r ≡ moment_at s u) × (result_err r ≡ first_failing (moment_tests (counted s) u))
  moment_clauses e = (e, rw e moment_refusal)

  -- at a depth of the range
  moment_is : {x : Design} → accepted (counted s) ≡ Ok x → 1 ≤ u → u ≤ 30 * x.h
      → moment_found (moment_at s u) ≡ resistance_at x (layers_of s) u
  moment_is {x} e low high = ap moment_found (moment_ready e) ∙ simp (le-leb 1 u low, le-leb u (30 * x.h) high)

-- ---- the depth of a face

-- the answer that a depth stands for: none, one up to 10h, or one beyond
module _ (x : Design) where
  -- the trials to a depth, from it and h alone
  abbrev pub trials_to : ℕ → ℕ
  trials_to u = (halved (kept_up_to u) (10 * x.h)).trials

  abbrev pub kind : ℕ → Result Depth Refusal
  kind zero = Err ForceTooHigh
  kind (suc u) = cond (leb (suc u) (10 * x.h)) (Ok (At (suc u) (trials_to (suc u)))) (Ok (Beyond (suc u)))

  pub kind_none : {u : ℕ} → u ≡ 0 → Err ForceTooHigh ≡ kind u
  kind_none e = rw e

  pub kind_up_to : (u : ℕ) → 1 ≤ u → u ≤ 10 * x.h → Ok (At u (trials_to u)) ≡ kind u
  kind_up_to zero low high = absurd (omega arith)
  kind_up_to (suc u) low high = rw (le-leb (suc u) (10 * x.h) high)

  pub kind_beyond : (u : ℕ) → 1 ≤ u → 10 * x.h < u → Ok (Beyond u) ≡ kind u
  kind_beyond zero low high = absurd (omega arith)
  kind_beyond (suc u) low high = rw (lt-leb (suc u) (10 * x.h) high)

some_is : (u : ℕ) → 1 ≤ u → Some u ≡ some_depth u
some_is zero low = absurd (omega arith)
some_is (suc u) low = refl

-- by the test whether N is at most the force at 10h: which depth it is, and what is promised of it
module _ {x : Design} {count : ℕ} {ls : List Layer} (N : ℤ) (w : Usable x count ls) (one : carries x ls N 1 ≡ true) where
  abbrev least : ℕ
  least = least_reaching x ls N

  abbrev promised : ℕ → Type 0
  promised u = 1 ≤ u → DepthPromise x ls N u

  up_to_promise : DepthPromise x ls N (depth_under ls N x)
  up_to_promise =
      let low = depth_low x ls N w.bounded one in
      let high = depth_high x ls N w.bounded one in
      record {
        depth = record { low = low; high = omega (arith, high) };
        accurate = λ h. rw (resistance_within x ls _ (le-leb _ _ h)) (accuracy x ls N w.bounded one (depths_within x.h ls w.depths));
        over = λ h. absurd (omega (arith, high));
      }

  beyond_promise : up_to_10h x ls N ≡ false → promised least
  beyond_promise f some =
      let d = reached-in x ls N some in
      record {
        depth = record { low = some; high = d.high };
        accurate = λ h. absurd (omega (arith, d.low));
        over = λ h. f;
      }

  pub depth_promise : promised (face_depth ls N x)
  depth_promise = by_cond promised (up_to_10h x ls N) (λ t some. up_to_promise) beyond_promise

  -- the second clause of `depth_above_one` follows from its first
  some_promised : (u : ℕ) → promised u → IfSome (some_depth u) (DepthPromise x ls N)
  some_promised zero p = tt
  some_promised (suc u) p = p (omega arith)

  pub face_clauses : {r : Option ℕ} → r ≡ some_depth (face_depth ls N x)
      → (r ≡ some_depth (face_depth ls N x)) × IfSome r (DepthPromise x ls N)
  face_clauses e = (e, rw e (some_promised (face_depth ls N x) depth_promise))

  -- a depth up to 10h is there
  pub some_up_to : {u : ℕ} → u ≡ depth_under ls N x → up_to_10h x ls N ≡ true → Some u ≡ some_depth (face_depth ls N x)
  some_up_to {u} e t = rw t (some_is u (omega (arith, e, depth_low x ls N w.bounded one)) ∙ ap some_depth e)

  -- N is reached where there is a depth
  reached_by : (t : Bool) → t || leb 1 least ≡ leb 1 (cond t (depth_under ls N x) least)
  reached_by true = sym (le-leb _ _ (depth_low x ls N w.bounded one))
  reached_by false = refl

  pub depth_reached : reaches x ls N ≡ leb 1 (face_depth ls N x)
  depth_reached = reached_by (up_to_10h x ls N)

  -- by the two tests that make 12
  answered : (t r : Bool) → up_to_10h x ls N ≡ t → leb 1 least ≡ r
      → depth_answer ls N (option_or (test ForceTooHigh (t || r)) None) (Ok x) ≡ kind x (cond t (depth_under ls N x) least)
  answered true r e f = rw (e, trials_by x ls N) (kind_up_to x (depth_under ls N x) (depth_low x ls N w.bounded one) (depth_high x ls N w.bounded one))
  answered false true e f = let some = leb-true 1 least f in rw e (kind_beyond x least some (reached-in x ls N some).low)
  answered false false e f = kind_none x {u = least} (omega (arith, leb-false 1 least f))

  pub depth_kind : depth_for x ls N ≡ kind x (face_depth ls N x)
  unfolding depth_for
  depth_kind = rw one (answered (up_to_10h x ls N) (leb 1 least) refl refl)

  kind-promised : (u : ℕ) → promised u → PromisedDepth x ls N (kind x u)
  kind-promised zero p = record { member = tt }
  kind-promised (suc u) p =
      by_cond (PromisedDepth x ls N) (leb (suc u) (10 * x.h)) (λ t. (leb-true _ _ t, p (omega arith))) (λ f. (leb-false _ _ f, p (omega arith)))

  above_promise : PromisedDepth x ls N (depth_for x ls N)
  above_promise = rw depth_kind (kind-promised (face_depth ls N x) depth_promise)

-- the promise of the answer, by cases of the test for 11
answer_promise : {x : Design} {count : ℕ} {ls : List Layer} (N : ℤ) → Usable x count ls → PromisedDepth x ls N (depth_for x ls N)
unfolding depth_for
answer_promise {x} {ls = ls} N w = go (carries x ls N 1) refl
  where
    go : (one : Bool) → carries x ls N 1 ≡ one → PromisedDepth x ls N (depth_for x ls N)
    go true e = above_promise N w e
    go false e = rw e (record { member = tt })

-- the second clause of `depth_for` follows from its first
pub depth_clauses : {x : Design} {count : ℕ} {ls : List Layer} (N : ℤ) {r : Result Depth Refusal} → Usable x count ls → r ≡ depth_for x ls N
    → (r ≡ depth_for x ls N) × PromisedDepth x ls N r
depth_clauses N w e = (e, rw e (answer_promise N w))

-- ---- Find a depth

module _ (s : Section) (N : ℤ) where
  abbrev found : Design → Depth
  found x = depth_of (layers_of s) N x

  -- its tests after the section's
  abbrev under-load : Result Design Refusal → List (Option Refusal)
  under-load a = test AxialForce (force_ok N) ∷ face_tests_of a (layers_of s) N

  pub find_refused : {r : Refusal} → accepted (counted s) ≡ Err r → find_depth s N ≡ Err r
  unfolding depth_in
  find_refused e = call_refused found (counted s) under-load e

  find_ready : {x : Design} → accepted (counted s) ≡ Ok x
      → find_depth s N ≡ depth_answer (layers_of s) N (option_or (test AxialForce (force_ok N)) (first_failing (face_tests x (layers_of s) N))) (Ok x)
  unfolding depth_in
  find_ready e = call_ready found (counted s) under-load e

  pub find_out : {x : Design} → accepted (counted s) ≡ Ok x → force_ok N ≡ false → find_depth s N ≡ Err AxialForce
  find_out e n = find_ready e ∙ rw n

  pub find-in : {x : Design} → accepted (counted s) ≡ Ok x → force_ok N ≡ true → find_depth s N ≡ depth_for x (layers_of s) N
  unfolding depth_for
  find-in e n = find_ready e ∙ rw n

  find_refusal : result_err (find_depth s N) ≡ first_failing (find_depth_tests (counted s) N)
  unfolding depth_in
  find_refusal = call_refusal found (counted s) under-load

  -- ---- its accuracy, by cases of the section tests and of the load's

  from_promise : {x : Design} (r : Result Depth Refusal) → accepted (counted s) ≡ Ok x → PromisedDepth x (layers_of s) N r → AccurateFound s N (Ok x) r
  from_promise (Ok (At u trials)) e p = rw (moment_is s u e p.1.depth.low p.1.depth.high) (p.1.accurate p.0)
  from_promise (Ok (Beyond u)) e p = tt
  from_promise (Err r) e p = tt

  accurate_in : {x : Design} (t : Bool) → force_ok N ≡ t → accepted (counted s) ≡ Ok x → AccurateFound s N (Ok x) (find_depth s N)
  accurate_in {x} true n e = rw (find-in e n) (from_promise (depth_for x (layers_of s) N) e (answer_promise N (rw e at (section_promise s)).usable))
  accurate_in false n e = rw (find_out e n) tt

  accurate_for : (a : Result Design Refusal) → accepted (counted s) ≡ a → AccurateFound s N a (find_depth s N)
  accurate_for (Err r) e = rw (find_refused e) tt
  accurate_for (Ok x) e = accurate_in (force_ok N) refl e

  pub find_accurate : AccurateDepth s N (find_depth s N)
  find_accurate = accurate_for (accepted (counted s)) refl

  -- ---- the number of its trials, by the same cases

  few_in : {x : Design} (k : Option Refusal) → Bounded x → depth.trials_found (depth_answer (layers_of s) N k (Ok x)) ≤ 15
  few_in (Some r) b = lit≤ tt
  few_in {x} None b =
      by_cond (λ d. depth.trials_found (Ok d) ≤ 15) (up_to_10h x (layers_of s) N) (λ t. trials_high x (layers_of s) N b) (λ f. lit≤ tt)

  few_for : (a : Result Design Refusal) → accepted (counted s) ≡ a → depth.trials_found (find_depth s N) ≤ 15
  few_for (Err r) e = rw (find_refused e) (lit≤ tt)
  few_for (Ok x) e =
      rw (find_ready e) (few_in (option_or (test AxialForce (force_ok N)) (first_failing (face_tests x (layers_of s) N))) (usable_by s e).bounded)

  find_few : depth.trials_found (find_depth s N) ≤ 15
  find_few = few_for (accepted (counted s)) refl

  -- the other clauses of `find_depth` follow from its first
  pub find_clauses : {r : Result Depth Refusal} → r ≡ find_depth s N
      → (r ≡ find_depth s N)
      × ((result_err r ≡ first_failing (find_depth_tests (counted s) N)) × (AccurateDepth s N r × (depth.trials_found r ≤ 15)))
  find_clauses e = (e, (rw e find_refusal, (rw e find_accurate, rw e find_few)))

-- ---- places beyond the count: sections that differ only there have one answer

pub beyond_find : (s t : Section) (N : ℤ) → counted s ≡ counted t → find_depth s N ≡ find_depth t N
beyond_find s t N e = rw e

pub beyond_moment : (s t : Section) (u : ℕ) → counted s ≡ counted t → moment_at s u ≡ moment_at t u
beyond_moment s t u e = rw e
