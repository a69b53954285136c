-- Where a malloc's object lies while nothing is freed, by how many objects earlier calls got: of its class, and of
-- others that began slabs.
use Rattle.std.specs.Prelude.{◌≡◌, ℕ, ◌+◌, ◌*◌, ◌%◌, ◌≤◌, ◌==◌, ◌&&◌, Bool, true, if◌then◌else◌, List, [], ◌∷◌, map}
use Rattle.std.specs.Prelude.{All}
use Rattle.pool_types.specs.declared.values.Place.{Place}
use Rattle.pool_types.specs.declared.values.Request.TheVariants.{Malloc}
use Rattle.pool_types.specs.declared.values.Answer.{Answer}
use Rattle.pool_types.specs.declared.values.Answer.TheVariants.{Got, Null}
use Rattle.size_classes.specs.Classes.{class_objects}
use Rattle.plain_lists.specs.Lists.{no_lists}
use Rattle.plain_lists.specs.Whole.{place_at, class_at, no_fit, answers_to}

-- how many of the objects that were got are of the class; the newest stands first
abbrev pub count_of : ℕ → List ℕ → ℕ
count_of class [] = 0
count_of class (other ∷ earlier) = count_of class earlier + (if other == class then 1 else 0)

-- the next object of the class is the first of a slab
abbrev pub is_first : ℕ → List ℕ → Bool
is_first class earlier = count_of class earlier % class_objects class == 0

-- how many slabs were begun
abbrev pub slabs_in : List ℕ → ℕ
slabs_in [] = 0
slabs_in (class ∷ earlier) = slabs_in earlier + (if is_first class earlier then 1 else 0)

-- the slab that the last first object of the class began: so many slabs were begun before it
abbrev pub slab_in : ℕ → List ℕ → ℕ
slab_in class [] = 0
slab_in class (other ∷ earlier) =
    if (other == class) && is_first other earlier then slabs_in earlier else slab_in class earlier

-- The place of the next object of the class. It is as many objects behind the slab's first one as the count leaves
-- over whole slabs; a first object begins the next slab, and any other lies in the slab that the last first object of
-- the class began. Slabs stand behind one another, in the order in which they were begun, and each has two granules.
abbrev pub counted_place : ℕ → List ℕ → Place
counted_place class earlier =
    place_at (2 * (if is_first class earlier then slabs_in earlier else slab_in class earlier)) class
    (count_of class earlier % class_objects class)

-- the next object of the class begins a slab, and all 64 slabs of the region were begun
abbrev pub IsOut : ℕ → List ℕ → Type 0
IsOut class earlier = (is_first class earlier ≡ true) × (64 ≤ slabs_in earlier)

-- Each object that was got for these sizes, after these, lies where the counts say. Null comes exactly where there is
-- no room for the slab that the next object of the class begins.
abbrev pub ArePlaced : List ℕ → List ℕ → List Answer → Type 0
ArePlaced earlier [] answers = answers ≡ []
ArePlaced earlier (size ∷ sizes) (Got place usable grant ∷ answers) =
    (place ≡ counted_place (class_at size) earlier) × (IsOut (class_at size) earlier → ⊥)
    × ArePlaced (class_at size ∷ earlier) sizes answers
ArePlaced earlier (size ∷ sizes) (Null cause ∷ answers) = (Null cause ≡ no_fit) × IsOut (class_at size) earlier
    × ArePlaced earlier sizes answers
ArePlaced earlier (size ∷ sizes) _ = ⊥

-- so it is with mallocs alone, from the first call on
abbrev pub MallocsArePlaced : Type 0
MallocsArePlaced = (sizes : List ℕ) → All (λ size. size ≤ 8128) sizes →
    ArePlaced [] sizes (answers_to no_lists (map Malloc sizes))
