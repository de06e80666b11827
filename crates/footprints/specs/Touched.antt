-- The bytes that a command touches which reads, writes or copies bytes. This project's own.
use Rattle.std.specs.Prelude.{List, [], ◌∷◌}
use Rattle.cp_base.specs.Region.{Region}
use Rattle.footprints.specs.declared.touched.Touched.{Touched}
use Rattle.footprints.specs.declared.touched.Touched.TheVariants as touched

-- the bytes that are read
abbrev pub read_in : Touched → List Region
read_in (touched.Reads range) = range ∷ []
read_in (touched.Writes range) = []
read_in (touched.Copies plan) = plan.sources.items

-- the bytes that are written
abbrev pub written_in : Touched → List Region
written_in (touched.Reads range) = []
written_in (touched.Writes range) = range ∷ []
written_in (touched.Copies plan) = plan.to ∷ []
