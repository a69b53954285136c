-- Calls by name pay what they are said to.
use Rattle.std.proofs.Common.{[], ◌∷◌, inl, inr, refl}
use Rattle.std.specs.Prelude.{Some}
use Rattle.pool_types.specs.declared.values.Answer.{Answer}
use Rattle.pool_types.specs.declared.values.Found.{Found}
use Rattle.pool_types.specs.declared.values.NullCause.{NullCause}
use Rattle.pool_types.specs.declared.values.Request.{Request}
use Rattle.path_laws.specs.Examples.{NamedCallsPay, first_object, lost_object, moved_object, place_named, told_of}
use Rattle.path_laws.specs.Pays.{shown}
use Rattle.path_laws.specs.Pays.Paid.{nothing_yet, pays}

pub named_calls_pay : NamedCallsPay
named_calls_pay k =
    let got = pays nothing_yet (told_of (Request.Malloc 64) (shown k first_object)) (first_object ∷ []) []
    (record { new = first_object; shows = refl; grants_are = refl; frees_are = refl }) in
    let kept = pays got (told_of (Request.Realloc (Some (place_named k first_object)) 60) (shown k first_object)) [] []
    (inl (record { old = first_object; begins = (refl, refl, refl); shows = refl; nothing = (refl, refl) })) in
    let moved = pays kept
    (told_of (Request.Realloc (Some (place_named k first_object)) 64) (shown k moved_object))
    (moved_object ∷ []) (first_object ∷ []) (inr (record {
      old = first_object;
      new = moved_object;
      begins = (refl, refl, refl);
      shows = refl;
      grants_are = refl;
      frees_are = refl;
    })) in
    let lost = pays moved
    (told_of (Request.Realloc (Some (place_named k moved_object)) 64) (Answer.NotHeld Found.NoGrant))
    (lost_object ∷ []) (lost_object ∷ [])
    (inr (record { new = lost_object; grants_are = refl; frees_are = inr refl })) in
    let freed = pays lost (told_of (Request.Free (Some (place_named k moved_object))) Answer.Freed) []
    (moved_object ∷ []) (record {
      asks = refl;
      old = moved_object;
      begins = (refl, refl, refl);
      grants_are = refl;
      frees_are = refl;
    }) in
    pays freed (told_of (Request.Malloc 64) (Answer.Null NullCause.RawFailed)) [] [] (refl, refl)
