-- Why a program stops.
--   Names path f     f names the file at this path, or is a want of memory
--   At path f r      r is f, and names the file at this path where f named none
--   Placed f         f is no failure of input or output of which nothing more is known
use Rattle.std.specs.Prelude.{◌≡◌, ℕ, List, ⊤, string_bytes}
use Rattle.program.specs.declared.failure.Failure.{Failure}
use Rattle.program.specs.declared.failure.Failure.TheVariants.{Own, File, Output, Memory}

abbrev pub Names : {R : Type 0} → List ℕ → Failure R → Type 0
Names path (Own r) = ⊥
Names path (File p e) = string_bytes p ≡ path
Names path (Output e) = ⊥
Names path (Memory e) = ⊤

abbrev pub At : {R : Type 0} → List ℕ → Failure R → Failure R → Type 0
At path (Own s) r = r ≡ Own s
At path (File p e) r = r ≡ File p e
At path (Output e) r = Names path r
At path (Memory e) r = Names path r

abbrev pub Placed : {R : Type 0} → Failure R → Type 0
Placed (Own r) = ⊤
Placed (File p e) = ⊤
Placed (Output e) = ⊥
Placed (Memory e) = ⊤
