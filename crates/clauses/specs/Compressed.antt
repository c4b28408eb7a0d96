-- The face that M compresses: document 01, "Equilibrium". Assumes nothing.
use Rattle.std.specs.Prelude.{cond, ℤ, pos}
use Rattle.std.specs.Int.Signed.{le_z}

-- of two things of the faces, that of the face which M compresses: the top for M ≥ 0, the bottom for M < 0
abbrev pub of_compressed : {A : Type 0} → ℤ → A → A → A
of_compressed M top bottom = cond (le_z (pos 0) M) top bottom

-- and that of the other face
abbrev pub of_other : {A : Type 0} → ℤ → A → A → A
of_other M top bottom = of_compressed M bottom top
