use Rattle.std.proofs.Common.{ℕ, ◌+◌, List, Fits, subst, sym, arith, w8, w32}
use lib.Lanes.{chunk, Steps}
use Rattle.std.proofs.lemmas.List.{map-id}
use Rattle.std.proofs.lemmas.Simd.{bytes_below, chunk-fits, length-chunk, sum_bound, sum_fits}
use Rattle.builtin_programs.proofs.sums.sum_in_lanes.Goals as goal

pub overflow_add-result : goal.overflow_add-result
overflow_add-result c =
    let v : List ℕ = chunk c.args.at 64 c.args.bytes.now in
    let long = length-chunk c.args.at 64 c.args.bytes.now c.requires in
    let most = sum_bound 255 v (bytes_below v (chunk-fits w8 c.args.at 64 c.args.bytes.now c.type_inv.bytes)) in
    subst (λ (xs : List ℕ). Steps (λ (s x : ℕ). Fits w32 (s + x)) (λ (s x : ℕ). s + x) 0 xs) (sym (map-id v)) (sum_fits w32 0 v (omega (arith, long, most)))
