-- How a pool is cut. Each of these numbers is this project's own.
use Rattle.std.specs.Prelude.{ℕ, ◌+◌, ◌-◌, ◌*◌, ◌/◌}

-- the bytes of a unit: an object begins at a unit, which has the object's mark
abbrev pub unit_bytes : ℕ
unit_bytes = 8

-- the bytes of a granule, by which a pool cuts its regions
abbrev pub granule_bytes : ℕ
granule_bytes = 8192

-- how many granules hold so many bytes
abbrev pub granules_of : ℕ → ℕ
granules_of bytes = (bytes + (granule_bytes - 1)) / granule_bytes

-- how many granules a slab has
abbrev pub slab_granules : ℕ
slab_granules = 2

-- the bytes of a slab
abbrev pub slab_bytes : ℕ
slab_bytes = slab_granules * granule_bytes

-- the bytes at a slab's start that no object gets
abbrev pub slab_header_bytes : ℕ
slab_header_bytes = 128

-- the bytes of a slab that its objects share
abbrev pub objects_bytes : ℕ
objects_bytes = slab_bytes - slab_header_bytes

-- the largest size of a small object, in bytes
abbrev pub largest_small : ℕ
largest_small = 8128

-- how many classes of small objects there are
abbrev pub class_count : ℕ
class_count = 26

-- the bytes of a line: the least that lies before a large object, and the least alignment of one
abbrev pub line_bytes : ℕ
line_bytes = 64

-- how many lists of free blocks a pool has: one for each number of granules, the last one for all from there on
abbrev pub bin_count : ℕ
bin_count = 512
