-- The halving rule: document 02, ticket 12. It searches the numbers from 1 to m for the greatest that passes a test; here the test is any, and
-- Find a depth asks "where the internal force there is at most N". Assumes nothing.
use Rattle.std.specs.Prelude.{ℕ, zero, suc, ◌+◌, ◌-◌, ◌/◌, Bool, cond, leb, ltb}

-- "a least and a greatest candidate", and how many trials there were
pub record Halving : Type 0 where
  pub least : ℕ
  pub greatest : ℕ
  pub trials : ℕ

-- "their mean rounded up": of 3 and 5 it is 4, of 3 and 6 it is 5
abbrev pub mean : ℕ → ℕ → ℕ
mean least greatest = (least + greatest + 1) / 2

-- the candidates, "first 1 and" m
abbrev pub first : ℕ → Halving
first m = record { least = 1; greatest = m; trials = 0 }

module _ (p : ℕ → Bool) where
  -- "It tries their mean rounded up, keeping it and what lies above where" the test p passes there, "else what lies below"
  abbrev pub tried : Halving → Halving
  tried c =
      cond (p (mean c.least c.greatest))
      (record { least = mean c.least c.greatest; greatest = c.greatest; trials = c.trials + 1 })
      (record { least = c.least; greatest = mean c.least c.greatest - 1; trials = c.trials + 1 })

  -- "until one remains". Each trial leaves fewer candidates, so n trials are enough where n is no less than their number: law `one_remains`.
  unfoldable pub halved_from : ℕ → Halving → Halving
  halved_from zero c = c
  halved_from (suc n) c = cond (ltb c.least c.greatest) (halved_from n (tried c)) c

  -- the rule: what it ends with
  unfoldable pub halved : ℕ → Halving
  halved m = halved_from m (first m)

-- a test that passes exactly at the numbers that are at most u: the trials of any that never comes back are those of this one (law `halved_by`),
-- and by it the code counts
abbrev pub kept_up_to : ℕ → ℕ → Bool
kept_up_to u k = leb k u
