use Rattle.std.proofs.Common.{◌≡◌, ◌≢◌, ℕ, ◌<◌, true, false, length, slice_index_or}
use Rattle.keys.proofs.repeats.Given as goal

-- there are 256 buckets, those of the keys before i are met, and no two places before i have one key
abbrev pub invariant-loop-i : goal.invariant-loop-i
invariant-loop-i g l =
    let K = g.row.K.Denot in
    record {
      places : length l.met ≡ 256;
      met : (k : ℕ) → k < l.i → (d : K) → slice_index_or l.met (g.K.Key.bucket (slice_index_or l.keys k d)) false ≡ true;
      apart : (k : ℕ) → k < l.i → (j : ℕ) → j < k → (d : K) → slice_index_or l.keys j d ≢ slice_index_or l.keys k d;
    }
