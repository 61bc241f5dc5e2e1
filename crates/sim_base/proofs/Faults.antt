-- What a count of faults tells.
use Rattle.std.proofs.Common.{◌≡◌, ℕ, arith}
use Rattle.sim_base.specs.Outside.{Rose, one_more}

-- a count that is one more rose
pub rose_of : (before now : ℕ) → now ≡ one_more before → Rose before now
rose_of before now e = omega (arith, e)
