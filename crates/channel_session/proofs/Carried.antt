-- Items that are told one after the other.
use Rattle.std.proofs.Common.{◌≡◌, ℕ, List, [], ◌∷◌, ◌++◌, map, string_bytes, String, refl, sym, ap, subst, ◌∙◌, append_assoc, append-nil}
use Rattle.std.specs.Global.{Global}
use Rattle.phx_message.specs.declared.message.Message.{Message}
use Rattle.channel_rules.specs.Said.{Said, Writes, WritesAll, NotesAll}
use Rattle.channel_rules.proofs.Saying.{writes_more, notes_more}
use Rattle.channel_session.specs.Carrying.{Carries}
use Rattle.channel_session.specs.declared.frames.Delivery.{Delivery}

bytes_more : (ts : List (String Global)) (t : String Global) → map string_bytes (ts ++ t ∷ []) ≡ map string_bytes ts ++ string_bytes t ∷ []
bytes_more [] t = refl
bytes_more (x ∷ ts) t = ap (λ bs. string_bytes x ∷ bs) (bytes_more ts t)

module _ (W : Said → Message → Type 0) (N : Said → List (List ℕ) → Type 0) where
  pub carries_more : (before : List Said) (x : Said) (d e : Delivery) (t : String Global) (ns : List (List ℕ)) → Carries W N before d → Writes W x (string_bytes t) → N x ns
      → e.texts.items ≡ d.texts.items ++ t ∷ [] → e.notices.items ≡ d.notices.items ++ ns → Carries W N (before ++ x ∷ []) e
  carries_more before x d e t ns h w n texts notices = record {
    texts =
        subst (λ ts. WritesAll W (before ++ x ∷ []) ts) (sym (ap (map string_bytes) texts ∙ bytes_more d.texts.items t))
        (writes_more W before (map string_bytes d.texts.items) x (string_bytes t) h.texts w);
    notices = subst (λ ms. NotesAll N (before ++ x ∷ []) ms) (sym notices) (notes_more N before d.notices.items x ns h.notices n);
  }

  -- this was told, and with what is left it is all
  abbrev pub Told : List Said → List Said → Delivery → Type 0
  Told all left d = (mid : List Said) × Carries W N mid d × (mid ++ left ≡ all)

  pub told_next : (all left rest : List Said) (x : Said) (d e : Delivery) → Told all left d → left ≡ x ∷ rest → ((mid : List Said) → Carries W N mid d → Carries W N (mid ++ x ∷ []) e) → Told all rest e
  told_next all left rest x d e h is next = (h.0 ++ x ∷ [], next h.0 h.1, append_assoc h.0 (x ∷ []) rest ∙ (ap (λ xs. h.0 ++ xs) (sym is) ∙ h.2))

  pub told_last : (all left : List Said) (d : Delivery) → Told all left d → left ≡ [] → Carries W N all d
  told_last all left d h is = subst (λ xs. Carries W N xs d) (sym (append-nil h.0) ∙ (ap (λ xs. h.0 ++ xs) (sym is) ∙ h.2)) h.1
