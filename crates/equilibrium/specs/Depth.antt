-- Find a depth: document 01, "Equilibrium", 02's ticket 11 for depths beyond 10h, and its ticket 12 for the number of trials. Assumes nothing.
use Rattle.std.specs.Prelude.{ℕ, ◌*◌, cond, List, ℤ, Option, Result, Ok, Err}
use Rattle.arith.specs.Greatest.{greatest}
use Rattle.arith.specs.Halving.{halved}
use Rattle.refusals.specs.Chain.{first_failing}
use Rattle.refusals.specs.declared.Refusal.{Refusal}
use Rattle.section.specs.declared.Layer.{Layer}
use Rattle.section.specs.declared.Section.{Section}
use Rattle.section.specs.declared.Design.{Design}
use Rattle.equilibrium.specs.declared.Depth.{Depth}
use Rattle.equilibrium.specs.declared.Depth.TheVariants.{At, Beyond}
use Rattle.section.specs.Section.{Counted, counted}
use Rattle.section.specs.Refusals.{accepted, answer}
use Rattle.beyond.specs.Depth.{least_reaching}
use Rattle.equilibrium.specs.Refusals.{carries, up_to_10h, face_tests, find_depth_tests}

-- the papers' numbers for each case of the answer: u, 0 where refused; and the number of trials, which "refused calls and depths beyond 10h
-- report" as 0
abbrev pub depth_found : Result Depth Refusal → ℕ
depth_found (Ok (At u trials)) = u
depth_found (Ok (Beyond u)) = u
depth_found (Err r) = 0

abbrev pub trials_found : Result Depth Refusal → ℕ
trials_found (Ok (At u trials)) = trials
trials_found (Ok (Beyond u)) = 0
trials_found (Err r) = 0

-- up to 10h: the greatest u of the range, 1 to 10h, at which the internal force is at most N
abbrev pub depth_under : List Layer → ℤ → Design → ℕ
depth_under ls N x = greatest (carries x ls N) (10 * x.h)

-- how many trials the halving rule takes to it, whose candidates are "first 1 and 10h", and whose test is that the internal force is at most N
abbrev pub trials_under : List Layer → ℤ → Design → ℕ
trials_under ls N x = (halved (carries x ls N) (10 * x.h)).trials

-- the depth of a face under N: up to 10h; or, for N above the internal force at 10h, the least beyond it that reaches N (ticket 11), 0 where
-- none up to 30h does
abbrev pub face_depth : List Layer → ℤ → Design → ℕ
face_depth ls N x = cond (up_to_10h x ls N) (depth_under ls N x) (least_reaching x ls N)

-- and which of the two it is, the first with its trials
abbrev pub depth_of : List Layer → ℤ → Design → Depth
depth_of ls N x = cond (up_to_10h x ls N) (At (depth_under ls N x) (trials_under ls N x)) (Beyond (least_reaching x ls N))

abbrev pub depth_answer : List Layer → ℤ → Option Refusal → Result Design Refusal → Result Depth Refusal
depth_answer ls N = answer (depth_of ls N)

-- of an accepted section and an N in its range: 11, 12 or the depth
unfoldable pub depth_for : Design → List Layer → ℤ → Result Depth Refusal
depth_for x ls N = depth_answer ls N (first_failing (face_tests x ls N)) (Ok x)

-- Find a depth
unfoldable pub depth_in : Counted → ℤ → Result Depth Refusal
depth_in c N = depth_answer c.layers N (first_failing (find_depth_tests c N)) (accepted c)

abbrev pub find_depth : Section → ℤ → Result Depth Refusal
find_depth s N = depth_in (counted s) N
