-- The words of the cache lie behind those of guards, slabs and objects.
use Rattle.std.proofs.Common.{ℕ, Option, Some, None, arith}
use Rattle.large_cache.specs.declared.get.GetAt.{GetAt}
use Rattle.large_cache.specs.declared.get.HitAt.{HitAt}
use Rattle.large_cache.specs.declared.get.CacheCall.{CacheCall}
use Rattle.large_cache.specs.declared.keep.KeepAt.{KeepAt}
use Rattle.large_cache.specs.declared.keep.KeepCall.{KeepCall}
use Rattle.large_cache.specs.declared.sweep.SweepAt.{SweepAt}
use Rattle.large_cache.specs.declared.sweep.SweepCall.{SweepCall}
use Rattle.large_cache.specs.declared.sweep.JudgeAt.{JudgeAt}
use Rattle.large_cache.specs.declared.undo.UndoAt.{UndoAt}
use Rattle.large_cache.specs.Get.{get_course, hit_course}
use Rattle.large_cache.specs.List.{cut_behind}
use Rattle.large_cache.specs.Keep.{keep_course}
use Rattle.large_cache.specs.Sweep.{sweep_course, judge_course}
use Rattle.large_cache.specs.Undo.{undo_course}
use Rattle.use_laws.proofs.CallerLemmas.{IsFar}

hit_far : (c : CacheCall) (at : HitAt) → IsFar (hit_course c at)
hit_far c (HitAt.Link items block) = tt
hit_far c (HitAt.Age items block link) = tt
hit_far c (HitAt.Mean items block link age) = tt
hit_far c (HitAt.Pop newest) = omega arith
hit_far c (HitAt.SetItems newest) = omega arith
hit_far c (HitAt.SetMean newest) = omega arith

pub get_far : (c : CacheCall) (at : GetAt) → IsFar (get_course c at)
get_far c GetAt.Lock = omega arith
get_far c GetAt.Items = tt
get_far c (GetAt.Head items) = tt
get_far c (GetAt.Hit at) = hit_far c at
get_far c GetAt.Cleaned = tt
get_far c (GetAt.SetThreshold cleaned) = omega arith
get_far c GetAt.ClearCleaned = omega arith
get_far c (GetAt.SetTime block) = omega arith
get_far c (GetAt.Used block) = tt
get_far c (GetAt.SetUsed block used) = omega arith
get_far c (GetAt.Unlock block) = omega arith

pub undo_far : (c : CacheCall) (at : UndoAt) → IsFar (undo_course c at)
undo_far c UndoAt.Lock = omega arith
undo_far c UndoAt.Used = tt
undo_far c (UndoAt.SetUsed used) = omega arith
undo_far c UndoAt.Unlock = omega arith

cut_far : (granules : ℕ) (before : Option ℕ) → IsFar (cut_behind granules before)
cut_far granules (Some block) = omega arith
cut_far granules None = omega arith

pub keep_far : (c : KeepCall) (at : KeepAt) → IsFar (keep_course c at)
keep_far c KeepAt.Lock = omega arith
keep_far c KeepAt.Items = tt
keep_far c (KeepAt.Head items) = tt
keep_far c (KeepAt.Walk tail) = tt
keep_far c (KeepAt.OldAge tail) = tt
keep_far c (KeepAt.Cut tail age) = cut_far c.granules tail.before
keep_far c (KeepAt.SetCleaned tail age) = omega arith
keep_far c (KeepAt.SetLink items head released) = omega arith
keep_far c (KeepAt.SetAge items released) = omega arith
keep_far c (KeepAt.SetHead items released) = omega arith
keep_far c (KeepAt.SetItems items released) = omega arith
keep_far c (KeepAt.Used released) = tt
keep_far c (KeepAt.SetUsed released used) = omega arith
keep_far c (KeepAt.Unlock released) = omega arith

judge_far : (granules : ℕ) (at : JudgeAt) → IsFar (judge_course granules at)
judge_far granules (JudgeAt.Threshold count) = tt
judge_far granules (JudgeAt.Mean count threshold) = tt
judge_far granules (JudgeAt.Get count threshold mean) = tt
judge_far granules (JudgeAt.Used count threshold mean get) = tt

pub sweep_far : (c : SweepCall) (at : SweepAt) → IsFar (sweep_course c at)
sweep_far c SweepAt.Clock = tt
sweep_far c SweepAt.Peek = tt
sweep_far c SweepAt.Lock = omega arith
sweep_far c SweepAt.Items = tt
sweep_far c (SweepAt.Judge at) = judge_far c.granules at
sweep_far c (SweepAt.SetThreshold count threshold) = omega arith
sweep_far c (SweepAt.Head count threshold) = tt
sweep_far c (SweepAt.Age walk) = tt
sweep_far c (SweepAt.Link walk) = tt
sweep_far c (SweepAt.Cut walk) = cut_far c.granules walk.kept
sweep_far c (SweepAt.SetItems walk) = omega arith
sweep_far c (SweepAt.SetCleaned walk) = omega arith
sweep_far c SweepAt.Unlock = omega arith
