-- Laws of the weights: how they grow, and what they come to. Assumes nothing.
use Prim.Native.Nat.{ℕ, zero, suc, ◌+◌, ◌-◌, ◌*◌, ◌^◌, ◌≤◌, ◌<◌}
use mathlib.Core.Path.{◌≡◌}
use native.Mathlib.Nat.{pow-zero, pow-suc}
use native.Mathlib.Omega.{arith}
use Rattle.bound.proofs.Steps.{weight, step, pre}

-- a weight is m steps
times_step : (m k : ℕ) → k < m → m * step m k ≡ weight m k
unfolding step weight
times_step m k below =
    let less : m - k ≡ suc (m - suc k) = omega arith in rw (less, pow-suc m (m - suc k)) (omega arith)

-- the next weight is a step more
next_weight : (m k : ℕ) → k < m → weight m (suc k) ≡ weight m k + step m k
unfolding step weight
next_weight m k below =
    let less : m - k ≡ suc (m - suc k) = omega arith in rw (less, pow-suc m (m - suc k), pow-suc (m + 1) k) (omega arith)

-- steps grow, one by one
next_step : (m k : ℕ) → suc k < m → step m k ≤ step m (suc k)
unfolding step
next_step m k below =
    let less : m - suc k ≡ suc (m - suc (suc k)) = omega arith in rw (less, pow-suc m (m - suc (suc k)), pow-suc (m + 1) k) (omega arith)

-- steps grow
pub steps_grow : (m k more : ℕ) → k + more < m → step m k ≤ step m (k + more)
steps_grow m k zero below = let same : k + 0 ≡ k = omega arith in rw same (omega arith)
steps_grow m k (suc more) below =
    let next : k + suc more ≡ suc (k + more) = omega arith in
    let early = steps_grow m k more (omega arith) in
    let late = next_step m (k + more) (omega arith) in
    rw next (omega arith)

-- the sum of steps grows
pub pre_grows : (m k more : ℕ) → pre m k ≤ pre m (k + more)
unfolding pre
pre_grows m k zero = let same : k + 0 ≡ k = omega arith in rw same (omega arith)
pre_grows m k (suc more) =
    let next : k + suc more ≡ suc (k + more) = omega arith in let early = pre_grows m k more in rw next (omega arith)

-- the steps come to what the weight has grown
pub weight_pre : (m k : ℕ) → k ≤ m → weight m k ≡ weight m 0 + pre m k
unfolding pre
weight_pre m zero below = omega arith
weight_pre m (suc k) below = let early = weight_pre m k (omega arith) in let next = next_weight m k (omega arith) in omega arith

-- the first weight and the last
pub first_weight : (m : ℕ) → weight m 0 ≡ m ^ m
unfolding weight
first_weight m = let less : m - 0 ≡ m = omega arith in rw (less, pow-zero (m + 1)) (omega arith)

pub last_weight : (m : ℕ) → weight m m ≡ (m + 1) ^ m
unfolding weight
last_weight m = let less : m - m ≡ 0 = omega arith in rw (less, pow-zero m) (omega arith)

-- m steps and what is left of the sum of all are the last weight
pub steps_and_rest : (m k : ℕ) → k < m → m * step m k + (pre m m - pre m k) ≡ weight m m
steps_and_rest m k below =
    let here = weight_pre m k (omega arith) in
    let end = weight_pre m m (omega arith) in
    let times = times_step m k below in
    let up : k + (m - k) ≡ m = omega arith in
    let grown : pre m k ≤ pre m m = rw up at (pre_grows m k (m - k)) in
    rw times (omega arith)
