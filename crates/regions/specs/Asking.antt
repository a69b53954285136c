-- What an office asks its callback for.
use Rattle.std.specs.Prelude.{ℕ, ◌+◌, ◌*◌, max, if◌then◌else◌}
use Rattle.pool_types.specs.declared.policy.Policy.{Policy}
use Rattle.pool_types.specs.declared.policy.Limits.{Limits}
use Rattle.pool_types.specs.Geometry.{granule_bytes, granules_of}
use Rattle.pool_types.specs.Policies.{align_up, granularity_of}

-- room for so many granules and two more, but no less than the least region; a fixed pool asks for the least region
abbrev pub wanted_bytes : Policy → Limits → ℕ → ℕ
wanted_bytes policy limits granules =
    if policy.fixed then limits.region else max limits.region ((granules + 2) * granule_bytes)

-- the bytes asked, a multiple of the granularity
abbrev pub asked_bytes : Policy → Limits → ℕ → ℕ
asked_bytes policy limits granules = align_up (wanted_bytes policy limits granules) (granularity_of policy)

-- the indices that so many bytes may need: the granules that they may touch, a wall, and one for the parity
abbrev pub asked_indices : ℕ → ℕ
asked_indices bytes = granules_of bytes + 2
