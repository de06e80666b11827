-- Where the line of an entry names its command. This project's own.
use Rattle.std.specs.Prelude.{◌≡◌, ℕ, ◌^◌, ◌<◌, List, ◌∷◌, ◌++◌, codes}
use Rattle.history_model.specs.Text.{lettered}

-- a line begins with its number, its host and its ordinal, each a field
pub record IsNamed (line : List ℕ) (host ordinal : ℕ) : Type 0 where
  pub number : ℕ
  pub rest : List ℕ
  pub few : number < 2 ^ 64
  pub hosts : host < 2 ^ 64
  pub ordinals : ordinal < 2 ^ 64
  pub begins : line ≡ lettered (codes "#") number ++ 32
      ∷ (lettered (codes "h") host ++ 32 ∷ (lettered (codes "n") ordinal ++ 32 ∷ rest))
