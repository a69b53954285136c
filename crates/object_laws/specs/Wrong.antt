-- Wrong definitions. Each breaks a law at the objects that are named.
use Rattle.std.specs.Prelude.{◌≡◌, ℕ, ◌∷◌}
use Rattle.pool_types.specs.declared.values.Grant.{Grant}
use Rattle.pool_words.specs.declared.words.Key.{Key}
use Rattle.word_codes.specs.declared.marks.Mark.{Mark}
use Rattle.word_codes.specs.declared.publics.Public.{Public}
use Rattle.chain_words.specs.declared.pushing.PushAt.{PushAt}
use Rattle.public_list.specs.declared.joining.JoinAt.{JoinAt}
use Rattle.public_list.specs.declared.posting.PostAt.{PostAt}
use Rattle.public_list.specs.declared.posting.PostCall.{PostCall}
use Rattle.word_laws.specs.Memory.{put}
use Rattle.slab_laws.specs.Books.{with_joined}
use Rattle.slab_laws.specs.Heaps.{slab_of}
use Rattle.object_laws.specs.Objects.{Held, Shadow, Core}
use Rattle.object_laws.specs.Objects.Task.{Away, Posting, Joining}
use Rattle.object_laws.specs.Parts.{ObjectsGood}
use Rattle.object_laws.specs.Rows.{shadow_listed, shadow_joined}

-- a stranger's free puts the object on the slab's private list, whatever its mark leads to
abbrev pub StrangersFrees : Type 0
StrangersFrees =
    (k : Key) (unit : ℕ) (grant : Grant) (mark : Mark) (g : Shadow) (s : Core) → g.held unit ≡ Held.Object grant
    → ObjectsGood k g s
    → ObjectsGood k (record g {
      held = put g.held unit Held.Private;
      privates = put g.privates (slab_of unit) (unit ∷ g.privates (slab_of unit));
    }) (record s { marks = put s.marks unit mark })

abbrev pub StrangersFreesAreWrong : Type 0
StrangersFreesAreWrong = StrangersFrees → ⊥

-- a push that has linked its object stores the public word, whatever that has become
abbrev pub StoredPushes : Type 0
StoredPushes =
    (k : Key) (seat : ℕ) (call : PostCall) (found : ℕ) (g : Shadow) (s : Core)
    → s.tasks seat ≡ Posting call (PostAt.Push (PushAt.Exchange found)) → ObjectsGood k g s
    → ObjectsGood k (shadow_listed call g) (record s {
      publics = put s.publics call.slab (Public.Filled call.unit);
      tasks = put s.tasks seat Away;
    })

abbrev pub StoredPushesAreWrong : Type 0
StoredPushesAreWrong = StoredPushes → ⊥

-- a join leaves the last link of the list that it took as it was
abbrev pub LooseJoins : Type 0
LooseJoins =
    (k : Key) (seat slab first last count : ℕ) (g : Shadow) (s : Core)
    → s.tasks seat ≡ Joining slab (JoinAt.Tie first last count) → ObjectsGood k g s
    → ObjectsGood k (shadow_joined slab (JoinAt.Tie first last count) g) (record s {
      book = with_joined slab first count s.book;
      tasks = put s.tasks seat Away;
    })

abbrev pub LooseJoinsAreWrong : Type 0
LooseJoinsAreWrong = LooseJoins → ⊥
