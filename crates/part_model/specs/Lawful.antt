-- The pairs of holders between which a seat may move bytes.
use Rattle.std.specs.Prelude.{ℕ, Bool, true, false, ◌&&◌, ◌==◌, Some, None}
use Rattle.std.specs.declared.option.Option.{Option}
use Rattle.part_model.specs.declared.holders.Holder.{Holder}
use Rattle.part_model.specs.declared.holders.Holder.TheVariants.{Waste, Head, Rest, Private, Public, Object, LargeHead, SlabCache, Cached, Bin, Queue, Hand}

-- whether the seat may ever move bytes from the one to the other; None is outside of the pool
abbrev pub is_lawful_pair : ℕ → Option Holder → Option Holder → Bool
is_lawful_pair seat None (Some (Hand hand)) = hand == seat
is_lawful_pair seat None (Some Waste) = true
is_lawful_pair seat (Some (Hand hand)) None = hand == seat
is_lawful_pair seat (Some Waste) None = true
is_lawful_pair seat (Some (Hand hand)) (Some Bin) = hand == seat
is_lawful_pair seat (Some (Hand hand)) (Some Queue) = hand == seat
is_lawful_pair seat (Some (Hand hand)) (Some (Cached granules)) = hand == seat
is_lawful_pair seat (Some Bin) (Some (Hand hand)) = hand == seat
is_lawful_pair seat (Some Queue) (Some (Hand hand)) = hand == seat
is_lawful_pair seat (Some (Cached granules)) (Some (Hand hand)) = hand == seat
is_lawful_pair seat (Some (Hand hand)) (Some (SlabCache owner)) = (hand == seat) && (owner == seat)
is_lawful_pair seat (Some (SlabCache owner)) (Some (Hand hand)) = (hand == seat) && (owner == seat)
is_lawful_pair seat (Some (Hand hand)) (Some Head) = hand == seat
is_lawful_pair seat (Some (Hand hand)) (Some Rest) = hand == seat
is_lawful_pair seat (Some Head) (Some (Hand hand)) = hand == seat
is_lawful_pair seat (Some Rest) (Some (Hand hand)) = hand == seat
is_lawful_pair seat (Some Private) (Some (Hand hand)) = hand == seat
is_lawful_pair seat (Some Rest) (Some (Object grant)) = grant.seat == seat
is_lawful_pair seat (Some Private) (Some (Object grant)) = grant.seat == seat
is_lawful_pair seat (Some (Object grant)) (Some Private) = true
is_lawful_pair seat (Some (Object grant)) (Some (Hand hand)) = hand == seat
is_lawful_pair seat (Some (Hand hand)) (Some Public) = hand == seat
is_lawful_pair seat (Some Public) (Some Private) = true
is_lawful_pair seat (Some (Hand hand)) (Some (LargeHead grant)) = (hand == seat) && (grant.seat == seat)
is_lawful_pair seat (Some (Hand hand)) (Some (Object grant)) = (hand == seat) && (grant.seat == seat)
is_lawful_pair seat (Some (LargeHead grant)) (Some (Hand hand)) = hand == seat
is_lawful_pair seat from to = false
