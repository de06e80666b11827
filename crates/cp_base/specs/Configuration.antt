-- The device's configuration and its limits. This project's own.
use Rattle.std.specs.Prelude.{◌≡◌, ℕ, zero, suc, replicate, ◌+◌, ◌*◌, ◌≤◌, ◌==◌, ◌⊎◌, List, Option, Some, None, if◌then◌else◌, length, sum, All, slice_get, slice_set}
use Rattle.cp_base.specs.declared.limits.TheConstants.{NAMESPACES, MAX_NAMESPACE, MAX_TOTAL, MAX_DEPTH, MAX_BUDGET}
use Rattle.cp_base.specs.declared.region.SpaceId.{SpaceId}
use Rattle.cp_base.specs.declared.region.SpaceId.TheVariants.{Nvm, Mem}

-- block size in bytes, depth of each host's queue, largest budget of an execution, and the size of
-- each namespace from number 1 on: NVM in blocks, memory in bytes, 0 where there is no such namespace
pub record Configuration : Type 0 where
  pub block : ℕ
  pub depth : ℕ
  pub budget : ℕ
  pub nvm : List ℕ
  pub mem : List ℕ

-- the limits that every configuration keeps
pub record IsWithinLimits (c : Configuration) : Type 0 where
  pub block : (c.block ≡ 512) ⊎ (c.block ≡ 4096)
  pub depth : (1 ≤ c.depth) × (c.depth ≤ MAX_DEPTH)
  pub budget : (1 ≤ c.budget) × (c.budget ≤ MAX_BUDGET)
  pub nvm_numbers : length c.nvm ≡ NAMESPACES
  pub mem_numbers : length c.mem ≡ NAMESPACES
  pub nvm_sizes : All (λ blocks. blocks * c.block ≤ MAX_NAMESPACE) c.nvm
  pub mem_sizes : All (λ bytes. bytes ≤ MAX_NAMESPACE) c.mem
  pub total : sum c.nvm * c.block + sum c.mem ≤ MAX_TOTAL

-- the item under a number, which counts from 1
abbrev pub numbered : {A : Type 0} → List A → ℕ → Option A
numbered xs zero = None
numbered xs (suc k) = slice_get xs k

-- a size of so many units, where it is not 0
abbrev pub present : ℕ → Option ℕ → Option ℕ
present unit None = None
present unit (Some n) = if n == 0 then None else Some (n * unit)

-- how many bytes a namespace has; None where there is no such namespace
abbrev pub size_of : Configuration → SpaceId → Option ℕ
size_of c (Nvm n) = present c.block (numbered c.nvm n)
size_of c (Mem n) = present 1 (numbered c.mem n)

-- the list with another item under a number
abbrev pub with_numbered : {A : Type 0} → List A → ℕ → A → List A
with_numbered xs zero x = xs
with_numbered xs (suc k) x = slice_set xs k x

-- the configuration with another size of a namespace, NVM in blocks and memory in bytes
abbrev pub with_size : Configuration → SpaceId → ℕ → Configuration
with_size c (Nvm n) size = record c { nvm = with_numbered c.nvm n size }
with_size c (Mem n) size = record c { mem = with_numbered c.mem n size }

-- the number of a namespace
abbrev pub number_of : SpaceId → ℕ
number_of (Nvm n) = n
number_of (Mem n) = n

-- namespaces are numbered from 1 to 8
abbrev pub HasNumber : SpaceId → Type 0
HasNumber space = (1 ≤ number_of space) × (number_of space ≤ NAMESPACES)

-- the configuration with no namespace yet
abbrev pub bare : ℕ → ℕ → ℕ → Configuration
bare block depth budget =
    record { block = block; depth = depth; budget = budget; nvm = replicate NAMESPACES 0; mem = replicate NAMESPACES 0 }
