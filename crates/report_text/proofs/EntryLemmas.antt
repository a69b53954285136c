-- The texts of entries, one after another.
use Rattle.std.proofs.Common.{◌≡◌, ℕ, List, [], ◌∷◌, ◌++◌, refl, sym, append_assoc, ap, ◌∙◌}
use Rattle.std.specs.Prelude.{OnOk, Result, Ok, Err}
use Rattle.std.proofs.lemmas.List.{append-nil}
use Rattle.report_text.specs.declared.entry.ReportEntry.{ReportEntry}
use Rattle.report_text.specs.Entries.{entry_text, entries_text}
use Rattle.report_text.specs.Reports.{ReportView, HasEntries}

-- one more entry puts its text at the end
pub entries_text-more : (names : List (List ℕ)) (entries : List ReportEntry) (entry : ReportEntry) → entries_text names (entries ++ entry ∷ []) ≡ entries_text names entries ++ entry_text names entry
entries_text-more names [] entry = append-nil (entry_text names entry)
entries_text-more names (first ∷ entries) entry =
    ap (λ (text : List ℕ). entry_text names first ++ text) (entries_text-more names entries entry)
    ∙ sym (append_assoc (entry_text names first) (entries_text names entries) (entry_text names entry))

-- the texts of entries and of more behind them
pub entries_text-append : (names : List (List ℕ)) (entries more : List ReportEntry) → entries_text names (entries ++ more) ≡ entries_text names entries ++ entries_text names more
entries_text-append names [] more = refl
entries_text-append names (first ∷ entries) more =
    ap (λ (text : List ℕ). entry_text names first ++ text) (entries_text-append names entries more)
    ∙ sym (append_assoc (entry_text names first) (entries_text names entries) (entries_text names more))

-- what a report's text is after one more entry
pub entries_text-added : (old : ReportView) (names : List (List ℕ)) (text : List ℕ) (entry : ReportEntry) → names ≡ old.names → text ≡ old.text ++ entry_text old.names entry → (entries : List ReportEntry) → HasEntries old entries → text ≡ entries_text names (entries ++ entry ∷ [])
entries_text-added old names text entry same added entries has =
    added
    ∙ ap (λ (text : List ℕ). text ++ entry_text old.names entry) has
    ∙ sym (entries_text-more old.names entries entry)
    ∙ ap (λ (names : List (List ℕ)). entries_text names (entries ++ entry ∷ [])) (sym same)

-- one piece of an entry, and then another
pub worded_after : {A E : Type 0} (added : Result A E) (start middle end first second : List ℕ) → middle ≡ start ++ first → OnOk added (end ≡ middle ++ second) → OnOk added (end ≡ start ++ (first ++ second))
worded_after (Ok done) start middle end first second is more = more ∙ ap (λ (text : List ℕ). text ++ second) is ∙ append_assoc start first second
worded_after (Err failed) start middle end first second is more = tt
