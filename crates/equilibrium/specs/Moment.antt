-- Moment at a depth: document 01, "Equilibrium", and 02's ticket 11 for depths beyond 10h. Assumes nothing.
use Rattle.std.specs.Prelude.{ℕ, ◌*◌, cond, List, leb, ℤ, pos, Result, Ok, Err}
use Rattle.refusals.specs.Chain.{first_failing}
use Rattle.refusals.specs.declared.Refusal.{Refusal}
use Rattle.section.specs.declared.Layer.{Layer}
use Rattle.section.specs.declared.Section.{Section}
use Rattle.section.specs.declared.Design.{Design}
use Rattle.section.specs.Section.{Counted, counted}
use Rattle.section.specs.Refusals.{accepted, answer}
use Rattle.beyond.specs.Force as beyond
use Rattle.equilibrium.specs.Refusals.{moment_tests}
use Rattle.equilibrium.specs.Force.{moment_resistance}

-- the moment of an answer in N·mm, 0 where refused
abbrev pub moment_found : Result ℤ Refusal → ℤ
moment_found (Ok m) = m
moment_found (Err r) = pos 0

-- the moment resistance MRd at u: up to 10h by the page `Force`, beyond it by that of the depths beyond 10h
unfoldable pub resistance_at : Design → List Layer → ℕ → ℤ
resistance_at x ls u = cond (leb u (10 * x.h)) (moment_resistance x ls u) (beyond.moment_resistance x ls u)

-- Moment at a depth: the moment resistance at u, with the top compressed
unfoldable pub moment_in : Counted → ℕ → Result ℤ Refusal
moment_in c u = answer (λ x. resistance_at x c.layers u) (first_failing (moment_tests c u)) (accepted c)

abbrev pub moment_at : Section → ℕ → Result ℤ Refusal
moment_at s u = moment_in (counted s) u
