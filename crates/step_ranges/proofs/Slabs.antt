-- Looks, ends of grants, posts, mail, mailboxes, orphans and what is joined.
use Rattle.std.proofs.Common.{Bool, None, Option, Some, arith, cond, eqb, false, leb, ltb, refl, true, ℕ, ◌%◌}
use Rattle.std.proofs.Common.{◌*◌, ◌+◌, ◌-◌, ◌/◌, ◌<◌, ◌||◌, ◌≡◌}
use Rattle.std.specs.Prelude.{not, ⊤}
use Rattle.pool_types.specs.Geometry.{class_count, granule_bytes, unit_bytes}
use Rattle.pool_types.specs.Limits.{most_regions}
use Rattle.pool_types.specs.Sums.{capped}
use Rattle.pool_words.specs.Actions.{finds}
use Rattle.pool_words.specs.Words.{publics}
use Rattle.pool_words.specs.declared.words.Key.{Key}
use Rattle.pool_words.specs.declared.words.Word.{Word}
use Rattle.word_codes.specs.Kinds.{kind_of}
use Rattle.word_codes.specs.Links.{link_of}
use Rattle.word_codes.specs.Marks.{mark_of}
use Rattle.word_codes.specs.Nexts.{mail_key_of, mailbox_word, next_link_of, next_of}
use Rattle.word_codes.specs.Places.{granule_of, granule_units, slab_granule, slot_of}
use Rattle.word_codes.specs.Publics.{public_of}
use Rattle.word_codes.specs.RegionWords.{has_no_unit, has_number, region_of, unit_in}
use Rattle.word_codes.specs.declared.kinds.Kind.{Kind}
use Rattle.word_codes.specs.declared.marks.Mark.{Mark}
use Rattle.word_codes.specs.declared.nexts.MailKey.{MailKey}
use Rattle.word_codes.specs.declared.nexts.Next.{Next}
use Rattle.word_codes.specs.declared.owns.Own.{Own}
use Rattle.word_codes.specs.declared.publics.Public.{Public}
use Rattle.word_codes.specs.declared.region_words.RegionWord.{RegionWord}
use Rattle.chain_words.specs.Pushing.{found_of, push_learn}
use Rattle.chain_words.specs.declared.pushing.PushAt.{PushAt}
use Rattle.chain_words.specs.declared.pushing.PushNext.{PushNext}
use Rattle.public_list.specs.Ending.{end_course}
use Rattle.public_list.specs.Joining.{join_course, join_learn, join_taken, join_walked}
use Rattle.public_list.specs.Looking.{is_slab, look_again, look_course, look_granted, look_held, look_learn}
use Rattle.public_list.specs.Looking.{look_placed, look_region}
use Rattle.public_list.specs.Posting.{post_by, post_course, post_learn, post_push, posted}
use Rattle.public_list.specs.declared.ending.EndAt.{EndAt}
use Rattle.public_list.specs.declared.ending.EndCall.{EndCall}
use Rattle.public_list.specs.declared.joining.JoinAt.{JoinAt}
use Rattle.public_list.specs.declared.joining.JoinCall.{JoinCall}
use Rattle.public_list.specs.declared.joining.JoinNext.{JoinNext}
use Rattle.public_list.specs.declared.looking.LookAt.{LookAt}
use Rattle.public_list.specs.declared.looking.LookCall.{LookCall}
use Rattle.public_list.specs.declared.looking.LookFor.{LookFor}
use Rattle.public_list.specs.declared.looking.LookNext.{LookNext}
use Rattle.public_list.specs.declared.posting.PostAt.{PostAt}
use Rattle.public_list.specs.declared.posting.PostCall.{PostCall}
use Rattle.public_list.specs.declared.posting.PostNext.{PostNext}
use Rattle.mailbox.specs.Boxes.{box_course, box_joined, box_learn, box_taken}
use Rattle.mailbox.specs.Mailing.{mail_course, mail_learn, mailed, slab_push}
use Rattle.mailbox.specs.declared.boxes.BoxAt.{BoxAt}
use Rattle.mailbox.specs.declared.boxes.BoxCall.{BoxCall}
use Rattle.mailbox.specs.declared.boxes.BoxNext.{BoxNext}
use Rattle.mailbox.specs.declared.mailing.MailAt.{MailAt}
use Rattle.mailbox.specs.declared.mailing.MailCall.{MailCall}
use Rattle.mailbox.specs.declared.mailing.MailNext.{MailNext}
use Rattle.orphans.specs.Adopting.{adopt_course, adopt_learn, adopt_taken}
use Rattle.orphans.specs.Leaving.{leave_closed, leave_course, leave_learn, leave_pushed}
use Rattle.orphans.specs.declared.adopting.AdoptAt.{AdoptAt}
use Rattle.orphans.specs.declared.adopting.AdoptCall.{AdoptCall}
use Rattle.orphans.specs.declared.adopting.AdoptNext.{AdoptNext}
use Rattle.orphans.specs.declared.leaving.LeaveAt.{LeaveAt}
use Rattle.orphans.specs.declared.leaving.LeaveCall.{LeaveCall}
use Rattle.orphans.specs.declared.leaving.LeaveNext.{LeaveNext}
use Rattle.backend_bins.specs.Blocks.{fits}
use Rattle.word_laws.specs.Memory.{Valid}
use Rattle.step_ranges.proofs.Codes.{exchanges, hand_fits, loads, mailbox_fits, next_fits, no_slab_fits}
use Rattle.step_ranges.proofs.Codes.{own_fits, private_fits, public_fits, public_link_fits, slab_fits}
use Rattle.step_ranges.proofs.Codes.{stores_in, swaps, zero_fits}
use Rattle.step_ranges.proofs.Lists.{PushNextFits, push_fits, push_on}
use Rattle.step_ranges.proofs.Numbers.{above_by, choose, end_last, granule_below, is_granule, is_kind, is_mark}
use Rattle.step_ranges.proofs.Numbers.{or_right, slab_there}
use Rattle.step_ranges.specs.Jobs.{AdoptFits, BoxFits, HasObject, JoinFits, LeaveFits, LookFits, MailFits}
use Rattle.step_ranges.specs.Jobs.{PostFits, PushFits}
use Rattle.step_ranges.specs.Ranges.{ActionFits, Finds, IsBelow, IsKey, IsMailbox, IsSlab, IsSlabIf, MarkFits}
use Rattle.step_ranges.specs.Ranges.{NextFits, PublicFits, RegionFits, ValueFits, units_end}
use Rattle.std.proofs.lemmas.Bool.Decides.{nat_tests}
use Rattle.mailbox.specs.Boxes.{key_of as box_key}
use Rattle.orphans.specs.Adopting.{key_of as adopt_key}

abbrev pub LookNextFits : Key → LookNext → Type 0
LookNextFits k (LookNext.Goes at) = LookFits k at
LookNextFits k (LookNext.Held unit mark kind base) = HasObject k unit kind
LookNextFits k LookNext.Differs = ⊤
LookNextFits k (LookNext.NotHeld found) = ⊤

abbrev pub PostNextFits : Key → PostNext → Type 0
PostNextFits k (PostNext.Goes at) = PostFits k at
PostNextFits k PostNext.Listed = ⊤
PostNextFits k PostNext.Owed = ⊤

abbrev pub MailNextFits : Key → MailNext → Type 0
MailNextFits k (MailNext.Goes at) = MailFits k at
MailNextFits k MailNext.Mailed = ⊤

abbrev pub JoinNextFits : Key → JoinNext → Type 0
JoinNextFits k (JoinNext.Goes at) = JoinFits k at
JoinNextFits k JoinNext.Nothing = ⊤
JoinNextFits k (JoinNext.Joined first count) = first < units_end k

abbrev pub BoxNextFits : Key → BoxNext → Type 0
BoxNextFits k (BoxNext.Goes at) = BoxFits k at
BoxNextFits k BoxNext.Empty = ⊤
BoxNextFits k (BoxNext.Unchanged slab rest) = IsSlabIf k rest
BoxNextFits k (BoxNext.Joined slab first count rest) = (first < units_end k) × IsSlabIf k rest

abbrev pub AdoptNextFits : Key → AdoptNext → Type 0
AdoptNextFits k (AdoptNext.Goes at) = AdoptFits k at
AdoptNextFits k AdoptNext.Empty = ⊤
AdoptNextFits k (AdoptNext.Adopted slab header rest) = IsSlab k slab × IsSlabIf k rest
AdoptNextFits k (AdoptNext.Spared slab rest) = IsSlab k slab × IsSlabIf k rest

abbrev pub LeaveNextFits : Key → LeaveNext → Type 0
LeaveNextFits k (LeaveNext.Goes at) = LeaveFits k at
LeaveNextFits k LeaveNext.Filled = ⊤
LeaveNextFits k LeaveNext.Left = ⊤

pub slot_low : (number : ℕ) → slot_of number < most_regions
slot_low number = omega arith

module _ (k : Key) (key : IsKey k) where
  mailbox_valid : (box : MailKey) → IsMailbox k box → Valid k (mailbox_word box)
  mailbox_valid box is = let seat = is.seat in let class = is.class in grind (arith, nat_tests)

  -- a look
  pub look_fits : (c : LookCall) (at : LookAt) → LookFits k at → ActionFits k (look_course c at)
  look_fits c LookAt.Region fits = loads (slot_low c.number)
  look_fits c (LookAt.Mark u) fits = loads (is_mark k u fits)
  look_fits c (LookAt.Again u m) fits = loads (slot_low c.number)
  look_fits c (LookAt.Kind u m) fits =
      loads (is_kind k (slab_granule (granule_of u)) (let slab = (slab_there k u fits).below in slab))
  look_fits c (LookAt.Odd u m) fits = loads (is_kind k (granule_of u) (granule_below k u fits))
  look_fits c (LookAt.Base u m kind) fits = loads (slot_low c.number)
  look_fits c (LookAt.Second u m kind base) fits = loads (is_mark k u fits.unit)
  look_fits c (LookAt.Gone m) fits = loads (slot_low c.number)

  unit_within : (r : RegionWord) (within : ℕ) → RegionFits k r → has_no_unit r within ≡ false
      → capped (within / unit_bytes + capped (r.first * granule_units)) < units_end k
  unit_within r within fits has =
      let low : within / granule_bytes < r.granules = above_by r.granules (within / granule_bytes)
      (or_right (not (eqb (within % unit_bytes) 0)) (leb r.granules (within / granule_bytes)) has) in
      let last = end_last k key in
      omega arith

  placed_next : (r : RegionWord) (offset : ℕ) (none : Bool) → RegionFits k r
      → (none ≡ false → has_no_unit r (offset - r.waste) ≡ false)
      → LookNextFits k (look_placed (cond none None
      (Some (capped ((offset - r.waste) / unit_bytes + capped (r.first * granule_units))))))
  placed_next r offset true fits has = tt
  placed_next r offset false fits has = unit_within r (offset - r.waste) fits (has refl)

  region_next : (c : LookCall) (r : RegionWord) → RegionFits k r → LookNextFits k (look_region c r)
  unfolding unit_in
  region_next c r fits = choose (LookNextFits k) (has_number r c.number) _ _
      (placed_next r c.offset (ltb c.offset r.waste || has_no_unit r (c.offset - r.waste)) fits
      (or_right (ltb c.offset r.waste) (has_no_unit r (c.offset - r.waste)))) tt

  granted_next : (u m : ℕ) (mark : Mark) → u < units_end k → LookNextFits k (look_granted u m mark)
  granted_next u m Mark.Unmarked below = tt
  granted_next u m (Mark.Granted grant) below = below
  granted_next u m (Mark.Hand seat) below = tt
  granted_next u m (Mark.Link unit) below = tt
  granted_next u m Mark.End below = tt
  granted_next u m Mark.EndUnusable below = tt

  held_next : (why : LookFor) (u m : ℕ) (kind : Kind) → HasObject k u kind → LookNextFits k (look_held why u m kind)
  held_next LookFor.Free u m kind has = has
  held_next LookFor.Size u m kind has = has
  held_next LookFor.Pool u m kind has = has
  held_next LookFor.Realloc u m kind has = has

  again_next : (why : LookFor) (m : ℕ) → LookNextFits k (look_again why m)
  again_next LookFor.Free m = tt
  again_next LookFor.Size m = tt
  again_next LookFor.Pool m = tt
  again_next LookFor.Realloc m = tt

  pub look_on : (c : LookCall) (at : LookAt) (found : ℕ) → LookFits k at → Finds k (look_course c at) found
      → LookNextFits k (look_learn c at found)
  look_on c LookAt.Region found fits finds = region_next c (region_of found) finds
  look_on c (LookAt.Mark u) found fits finds = fits
  look_on c (LookAt.Again u m) found fits finds = choose (LookNextFits k) (has_number (region_of found) c.number) _ _
      (granted_next u m (mark_of m) fits) tt
  look_on c (LookAt.Kind u m) found fits finds =
      choose (LookNextFits k) (is_slab (kind_of found) || eqb (granule_of u % 2) 0) _ _
      (held_next c.reason u m (kind_of found) (record { unit = fits; kind = finds })) fits
  look_on c (LookAt.Odd u m) found fits finds =
      held_next c.reason u m (kind_of found) (record { unit = fits; kind = finds })
  look_on c (LookAt.Base u m kind) found fits finds = fits
  look_on c (LookAt.Second u m kind base) found fits finds =
      choose (LookNextFits k) (eqb found m) _ _ fits (again_next c.reason found)
  look_on c (LookAt.Gone m) found fits finds = tt

  -- an end of a grant
  pub end_fits_at : (c : EndCall) (at : EndAt) → c.seat < k.seats → c.unit < units_end k
      → IsBelow (units_end k) c.head → ActionFits k (end_course c at)
  end_fits_at c EndAt.Own seat below head = exchanges (is_mark k c.unit below) (private_fits k key c.head head)
  end_fits_at c EndAt.Other seat below head = exchanges (is_mark k c.unit below) (hand_fits k key c.seat seat)
  end_fits_at c EndAt.Large seat below head = exchanges (is_mark k c.unit below) (hand_fits k key c.seat seat)
  end_fits_at c (EndAt.Lost m) seat below head = loads (slot_low c.number)

  -- a post
  post_found : (slab : ℕ) (at : PushAt) → PushFits (ValueFits k (Word.Public slab)) at
      → PublicFits k (public_of (found_of at))
  post_found slab PushAt.Look fits = zero_fits k key publics slab
  post_found slab (PushAt.Link found) fits = fits
  post_found slab (PushAt.Exchange found) fits = fits

  pub post_fits : (c : PostCall) (at : PostAt) → c.unit < units_end k → IsSlab k c.slab → PostFits k at
      → ActionFits k (post_course c at)
  post_fits c (PostAt.Push p) below slab fits = push_fits k (post_push c (found_of p)) p
      (is_granule k c.slab slab.below) (is_mark k c.unit below)
      (public_link_fits k key (public_of (found_of p)) (post_found c.slab p fits))
      (public_fits k key (Public.Filled c.unit) below)

  posted_next : (public : Public) → PostNextFits k (posted public)
  posted_next Public.Null = tt
  posted_next Public.Unusable = tt
  posted_next (Public.Filled unit) = tt

  post_next : (next : PushNext) → PushNextFits (ValueFits k (Word.Public 0)) next → PostNextFits k (post_by next)
  post_next (PushNext.Goes p) fits = fits
  post_next (PushNext.Pushed found) fits = posted_next (public_of found)

  pub post_on : (c : PostCall) (at : PostAt) (found : ℕ) → PostFits k at → Finds k (post_course c at) found
      → PostNextFits k (post_learn at found)
  post_on c (PostAt.Push p) found fits finds =
      post_next (push_learn p found) (push_on k (post_push c (found_of p)) p found fits finds)

  -- mail
  slab_found : (at : PushAt) → PushFits (ValueFits k (Word.Orphans 0)) at → IsSlabIf k (link_of (found_of at))
  slab_found PushAt.Look fits = no_slab_fits k key
  slab_found (PushAt.Link found) fits = fits
  slab_found (PushAt.Exchange found) fits = fits

  pub mail_fits : (c : MailCall) (at : MailAt) → IsSlab k c.slab → MailFits k at → ActionFits k (mail_course c at)
  mail_fits c MailAt.Next slab fits = loads (is_granule k c.slab slab.below)
  mail_fits c (MailAt.Push box p) slab fits = push_fits k (slab_push (mailbox_word box) c.slab (found_of p)) p
      (mailbox_valid box fits.0) (is_granule k c.slab slab.below)
      (next_fits k key (link_of (found_of p)) (slab_found p fits.1)) (slab_fits k key c.slab slab)

  key_fits : (next : Next) → NextFits k next → IsMailbox k (mail_key_of next)
  key_fits (Next.Mailbox box) fits = fits
  key_fits (Next.Link slab) fits = record { seat = key.seated; class = omega arith }

  mailed_next : (box : MailKey) (next : PushNext) → IsMailbox k box
      → PushNextFits (ValueFits k (mailbox_word box)) next → MailNextFits k (mailed box next)
  mailed_next box (PushNext.Goes p) is fits = (is, fits)
  mailed_next box (PushNext.Pushed found) is fits = tt

  pub mail_on : (c : MailCall) (at : MailAt) (found : ℕ) → MailFits k at → Finds k (mail_course c at) found
      → MailNextFits k (mail_learn at found)
  mail_on c MailAt.Next found fits finds = (key_fits (next_of found) finds, tt)
  mail_on c (MailAt.Push box p) found fits finds = mailed_next box (push_learn p found) fits.0
      (push_on k (slab_push (mailbox_word box) c.slab (found_of p)) p found fits.1 finds)

  -- what was given back to a slab is joined
  pub join_fits : (c : JoinCall) (at : JoinAt) → IsSlab k c.slab → IsBelow (units_end k) c.head → JoinFits k at
      → ActionFits k (join_course c at)
  join_fits c JoinAt.Take slab head fits = swaps (is_granule k c.slab slab.below) (public_fits k key Public.Null tt)
  join_fits c (JoinAt.Walk first at count) slab head fits = loads (is_mark k at fits.1)
  join_fits c (JoinAt.Tie first last count) slab head fits =
      stores_in (is_mark k last fits.1) (private_fits k key c.head head)

  taken_next : (public : Public) → PublicFits k public → JoinNextFits k (join_taken public)
  taken_next Public.Null fits = tt
  taken_next Public.Unusable fits = tt
  taken_next (Public.Filled unit) fits = (fits, fits)

  walked_next : (first at count : ℕ) (mark : Mark) → first < units_end k → at < units_end k → MarkFits k mark
      → JoinNextFits k (join_walked first at count mark)
  walked_next first at count Mark.Unmarked one other fits = (one, other)
  walked_next first at count (Mark.Granted grant) one other fits = (one, other)
  walked_next first at count (Mark.Hand seat) one other fits = (one, other)
  walked_next first at count (Mark.Link unit) one other fits = (one, fits)
  walked_next first at count Mark.End one other fits = (one, other)
  walked_next first at count Mark.EndUnusable one other fits = (one, other)

  pub join_on : (c : JoinCall) (at : JoinAt) (found : ℕ) → JoinFits k at → Finds k (join_course c at) found
      → JoinNextFits k (join_learn at found)
  join_on c JoinAt.Take found fits finds = taken_next (public_of found) finds
  join_on c (JoinAt.Walk first at count) found fits finds =
      walked_next first at (capped (count + 1)) (mark_of found) fits.0 fits.1 finds
  join_on c (JoinAt.Tie first last count) found fits finds = fits.0

  -- a mailbox
  next_link_fits : (next : Next) → NextFits k next → IsSlabIf k (next_link_of next)
  next_link_fits (Next.Mailbox box) fits = tt
  next_link_fits (Next.Link slab) fits = fits

  pub box_fits : (c : BoxCall) (at : BoxAt) → IsMailbox k (box_key c) → IsBelow (units_end k) c.head → BoxFits k at
      → ActionFits k (box_course c at)
  box_fits c BoxAt.Take is head fits = swaps (mailbox_valid (box_key c) is) (no_slab_fits k key)
  box_fits c (BoxAt.Next slab) is head fits = loads (is_granule k slab fits.below)
  box_fits c (BoxAt.Settle slab rest) is head fits =
      stores_in (is_granule k slab fits.0.below) (mailbox_fits k key (box_key c) is)
  box_fits c (BoxAt.Join slab rest at) is head fits =
      join_fits (record { slab = slab; head = c.head }) at fits.0 head fits.2

  box_taken_next : (one : Option ℕ) → IsSlabIf k one → BoxNextFits k (box_taken one)
  box_taken_next None fits = tt
  box_taken_next (Some slab) fits = fits

  box_joined_next : (slab : ℕ) (rest : Option ℕ) (next : JoinNext) → IsSlab k slab → IsSlabIf k rest
      → JoinNextFits k next → BoxNextFits k (box_joined slab rest next)
  box_joined_next slab rest (JoinNext.Goes at) is below fits = (is, below, fits)
  box_joined_next slab rest JoinNext.Nothing is below fits = below
  box_joined_next slab rest (JoinNext.Joined first count) is below fits = (fits, below)

  pub box_on : (c : BoxCall) (at : BoxAt) (found : ℕ) → BoxFits k at → Finds k (box_course c at) found
      → BoxNextFits k (box_learn at found)
  box_on c BoxAt.Take found fits finds = box_taken_next (link_of found) finds
  box_on c (BoxAt.Next slab) found fits finds = (fits, next_link_fits (next_of found) finds)
  box_on c (BoxAt.Settle slab rest) found fits finds = (fits.0, fits.1, tt)
  box_on c (BoxAt.Join slab rest at) found fits finds =
      box_joined_next slab rest (join_learn at found) fits.0 fits.1
      (join_on (record { slab = slab; head = c.head }) at found fits.2 finds)

  -- orphans
  pub adopt_fits : (c : AdoptCall) (at : AdoptAt) → c.seat < k.seats → c.class < class_count → AdoptFits k at
      → ActionFits k (adopt_course c at)
  adopt_fits c AdoptAt.Take seat class fits = swaps class (no_slab_fits k key)
  adopt_fits c (AdoptAt.Header slab) seat class fits = loads (is_granule k slab fits.below)
  adopt_fits c (AdoptAt.Next slab header) seat class fits = loads (is_granule k slab fits.below)
  adopt_fits c (AdoptAt.Settle slab header rest) seat class fits =
      stores_in (is_granule k slab fits.0.below)
      (mailbox_fits k key (adopt_key c) (record { seat = seat; class = class }))
  adopt_fits c (AdoptAt.Own slab header rest) seat class fits =
      stores_in (is_granule k slab fits.0.below) (own_fits k key (Own.Kept c.seat) seat)
  adopt_fits c (AdoptAt.Spare slab) seat class fits = loads (is_granule k slab fits.below)

  adopt_taken_next : (one : Option ℕ) → IsSlabIf k one → AdoptNextFits k (adopt_taken one)
  adopt_taken_next None fits = tt
  adopt_taken_next (Some slab) fits = fits

  pub adopt_on : (c : AdoptCall) (at : AdoptAt) (found : ℕ) → AdoptFits k at → Finds k (adopt_course c at) found
      → AdoptNextFits k (adopt_learn at found)
  adopt_on c AdoptAt.Take found fits finds = adopt_taken_next (link_of found) finds
  adopt_on c (AdoptAt.Header slab) found fits finds = fits
  adopt_on c (AdoptAt.Next slab header) found fits finds = (fits, next_link_fits (next_of found) finds)
  adopt_on c (AdoptAt.Settle slab header rest) found fits finds = fits
  adopt_on c (AdoptAt.Own slab header rest) found fits finds = fits
  adopt_on c (AdoptAt.Spare slab) found fits finds = (fits, next_link_fits (next_of found) finds)

  pub leave_fits : (c : LeaveCall) (at : LeaveAt) → IsSlab k c.slab → c.class < class_count → LeaveFits k at
      → ActionFits k (leave_course c at)
  leave_fits c LeaveAt.Close slab class fits =
      exchanges (is_granule k c.slab slab.below) (public_fits k key Public.Unusable tt)
  leave_fits c LeaveAt.Header slab class fits = stores_in (is_granule k c.slab slab.below) tt
  leave_fits c LeaveAt.Disown slab class fits =
      stores_in (is_granule k c.slab slab.below) (own_fits k key Own.Orphan tt)
  leave_fits c (LeaveAt.Push p) slab class fits =
      push_fits k (slab_push (Word.Orphans c.class) c.slab (found_of p)) p class (is_granule k c.slab slab.below)
      (next_fits k key (link_of (found_of p)) (slab_found p fits)) (slab_fits k key c.slab slab)

  closed_next : (public : Public) → LeaveNextFits k (leave_closed public)
  closed_next Public.Null = tt
  closed_next Public.Unusable = tt
  closed_next (Public.Filled unit) = tt

  pushed_next : (next : PushNext) → PushNextFits (ValueFits k (Word.Orphans 0)) next
      → LeaveNextFits k (leave_pushed next)
  pushed_next (PushNext.Goes p) fits = fits
  pushed_next (PushNext.Pushed found) fits = tt

  pub leave_on : (c : LeaveCall) (at : LeaveAt) (found : ℕ) → LeaveFits k at → Finds k (leave_course c at) found
      → LeaveNextFits k (leave_learn at found)
  leave_on c LeaveAt.Close found fits finds = closed_next (public_of found)
  leave_on c LeaveAt.Header found fits finds = tt
  leave_on c LeaveAt.Disown found fits finds = tt
  leave_on c (LeaveAt.Push p) found fits finds = pushed_next (push_learn p found)
      (push_on k (slab_push (Word.Orphans c.class) c.slab (found_of p)) p found fits finds)
