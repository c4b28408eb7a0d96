-- What the face compressed has. Assumes nothing.
use mathlib.Core.Bool.{Bool, true, false, cond}
use mathlib.Core.Path.{◌≡◌, refl, sym, ap, ◌∙◌}
use lib.IntN.{ℤ, pos}
use lib.Signed.{le_z}
use Rattle.clauses.specs.Compressed.{of_compressed}

-- the arms of a branch on the sign of M, which the code reads as z
module _ {A : Type 0} {M z : ℤ} (top bottom : A) (read : z ≡ M) where
  pub compressed_top : le_z (pos 0) z ≡ true → top ≡ of_compressed M top bottom
  compressed_top e = simp (sym (ap (le_z (pos 0)) read) ∙ e)

  pub compressed_bottom : le_z (pos 0) z ≡ false → bottom ≡ of_compressed M top bottom
  compressed_bottom e = simp (sym (ap (le_z (pos 0)) read) ∙ e)

-- a function of what the face compressed has
pub through : {A B : Type 0} (f : A → B) (M : ℤ) (top bottom : A) → f (of_compressed M top bottom) ≡ of_compressed M (f top) (f bottom)
through f M top bottom = go (le_z (pos 0) M)
  where
    go : (t : Bool) → f (cond t top bottom) ≡ cond t (f top) (f bottom)
    go true = refl
    go false = refl
