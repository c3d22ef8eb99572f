-- The weights of the double count, for a number of chambers, and what each chamber more that is taken adds. Assumes nothing.
use Prim.Native.Nat.{ℕ, zero, suc, ◌+◌, ◌-◌, ◌*◌, ◌^◌}

-- the weight of so many chambers that are taken
unfoldable pub weight : ℕ → ℕ → ℕ
weight m k = (m + 1) ^ k * m ^ (m - k)

-- what one chamber more adds to it
unfoldable pub step : ℕ → ℕ → ℕ
step m k = (m + 1) ^ k * m ^ (m - suc k)

-- what so many chambers add together
unfoldable pub pre : ℕ → ℕ → ℕ
pre m zero = 0
pre m (suc k) = pre m k + step m k
