-- Bytes put into a namespace leave the length of each.
use Rattle.std.proofs.Common.{◌≡◌, ℕ, zero, suc, ◌+◌, ◌≤◌, List, [], ◌∷◌, length, unwrap_or, slice_get, set, refl, ◌∙◌, arith}
use Rattle.std.proofs.lemmas.Grind.{common_steps}
use Rattle.cp_base.specs.Configuration.{Configuration, numbered, with_numbered}
use Rattle.cp_base.specs.Contents.{Contents, bytes_of, put}
use Rattle.cp_base.specs.Pieces.{patched}
use Rattle.cp_base.specs.declared.region.SpaceId.{SpaceId}
use Rattle.cp_base.specs.declared.region.SpaceId.TheVariants.{Nvm, Mem}
use Rattle.seq_device.specs.Standing.{HasSizes}

length-patched : (old : List ℕ) (start : ℕ) (bytes : List ℕ) → start + length bytes ≤ length old → length (patched old start bytes) ≡ length old
length-patched old start bytes h = grind (arith, common_steps)

length-set_item : (xs : List (List ℕ)) (k j : ℕ) (y : List ℕ) → length y ≡ length (unwrap_or (slice_get xs k) []) → length (unwrap_or (slice_get (set xs k y) j) []) ≡ length (unwrap_or (slice_get xs j) [])
length-set_item [] k j y h = refl
length-set_item (x ∷ xs) zero zero y h = h
length-set_item (x ∷ xs) zero (suc j) y h = refl
length-set_item (x ∷ xs) (suc k) zero y h = refl
length-set_item (x ∷ xs) (suc k) (suc j) y h = length-set_item xs k j y h

length-with_numbered : (xs : List (List ℕ)) (n m : ℕ) (y : List ℕ) → length y ≡ length (unwrap_or (numbered xs n) []) → length (unwrap_or (numbered (with_numbered xs n y) m) []) ≡ length (unwrap_or (numbered xs m) [])
length-with_numbered xs zero m y h = refl
length-with_numbered xs (suc k) zero y h = refl
length-with_numbered xs (suc k) (suc j) y h = length-set_item xs k j y h

length-put : (contents : Contents) (at : SpaceId) (start : ℕ) (bytes : List ℕ) (space : SpaceId) → start + length bytes ≤ length (bytes_of contents at) → length (bytes_of (put contents at start bytes) space) ≡ length (bytes_of contents space)
length-put contents (Nvm n) start bytes (Nvm m) h = length-with_numbered contents.nvm n m _ (length-patched (bytes_of contents (Nvm n)) start bytes h)
length-put contents (Nvm n) start bytes (Mem m) h = refl
length-put contents (Mem n) start bytes (Nvm m) h = refl
length-put contents (Mem n) start bytes (Mem m) h = length-with_numbered contents.mem n m _ (length-patched (bytes_of contents (Mem n)) start bytes h)

-- the sizes stay as they are configured
pub HasSizes-put : (c : Configuration) (contents : Contents) (at : SpaceId) (start : ℕ) (bytes : List ℕ) → HasSizes c contents → start + length bytes ≤ length (bytes_of contents at) → HasSizes c (put contents at start bytes)
HasSizes-put c contents at start bytes sizes h = λ space. length-put contents at start bytes space h ∙ sizes space
