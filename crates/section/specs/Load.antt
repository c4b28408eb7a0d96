-- The ranges of a load: document 01, "What the engine covers". Assumes nothing.
use Rattle.std.specs.Prelude.{Bool, ℤ, pos, neg_ℤ}
use Rattle.arith.specs.Integer.{in_range}

-- N and V are within ±500,000,000 newtons, M within ±1,000,000,000,000 N·mm
abbrev pub force_ok : ℤ → Bool
force_ok n = in_range (neg_ℤ (pos 500000000)) (pos 500000000) n

abbrev pub moment_ok : ℤ → Bool
moment_ok m = in_range (neg_ℤ (pos 1000000000000)) (pos 1000000000000) m
