-- Every namespace is made of zeros.
use Rattle.std.proofs.Common.{◌≡◌, ◌∙◌, ℕ, List, ap}
use Rattle.extents.specs.Homes.{zero_spaces}
use Rattle.extents.proofs.Regions.{all_whole, all_zero_known}
use Rattle.extents.proofs.extents.Extents.new.Goals as goal

ap2 : {m n : ℕ} {xs ys : List ℕ} → m ≡ n → xs ≡ ys → zero_spaces m xs ≡ zero_spaces n ys
ap2 {m} {n} {xs} {ys} e f = ap (λ (k : ℕ). zero_spaces k xs) e ∙ ap (zero_spaces n) f

pub returns-clause-zero : goal.returns-clause-zero
returns-clause-zero c = all_zero_known c.in_ok-nvm.nvm.items c.in_ok-mem.mem.items c.args.config.now (c.in_ok-nvm.ensures ∙ ap2 c.block.ensures.value c.nvm.ensures.value) (c.in_ok-mem.ensures ∙ ap (zero_spaces 1) c.mem.ensures.value)

pub returns-clause-whole : goal.returns-clause-whole
returns-clause-whole c = all_whole c.in_ok-nvm.nvm.items c.in_ok-mem.mem.items c.args.config.now (c.in_ok-nvm.ensures ∙ ap2 c.block.ensures.value c.nvm.ensures.value) (c.in_ok-mem.ensures ∙ ap (zero_spaces 1) c.mem.ensures.value)
