-- Texts and notices of what is said, one piece of speech behind another.
use Rattle.std.proofs.Common.{◌≡◌, ℕ, List, [], ◌∷◌, ◌++◌, refl, ap, ◌∙◌, append_assoc, append-nil}
use Rattle.channel_rules.specs.Said.{Said, WritesAll, NotesAll}
use Rattle.channel_rules.proofs.Saying.{writes_all_more, notes_all_more}
use Rattle.presence_stdio.proofs.Known.{appends-itself, appends-then, appends-keeps, keeps-itself}
use Rattle.presence_stdio.specs.Session.{Speech, silence, and_then, answering, dealing, Voice, Says, printed}
use Rattle.presence_stdio.specs.Run.{Outs, KeepsOuts, Sends}

-- ---- what is said

pub then_assoc : (a b c : Speech) → and_then (and_then a b) c ≡ and_then a (and_then b c)
then_assoc a b c i = record { said = append_assoc a.said b.said c.said i; dealt = append_assoc a.dealt b.dealt c.dealt i }

pub then_silence : (a : Speech) → and_then a silence ≡ a
then_silence a i = record { said = append-nil a.said i; dealt = append-nil a.dealt i }

-- ---- texts and notices

pub printed-more : (xs ys : List (List ℕ)) → printed xs ++ printed ys ≡ printed (xs ++ ys)
printed-more [] ys = refl
printed-more (x ∷ xs) ys = append_assoc x (10 ∷ printed xs) (printed ys) ∙ ap (λ r. x ++ 10 ∷ r) (printed-more xs ys)

module _ (v : Voice) where
  pub says_none : Says v silence [] []
  says_none = record { texts = []; worded = ([], tt, refl); text_is = refl; notices = []; noted = refl; notes_are = refl }

  pub says_then : (a b : Speech) (t n u m : List ℕ) → Says v a t n → Says v b u m → Says v (and_then a b) (t ++ u) (n ++ m)
  says_then a b t n u m h k = record {
    texts = h.texts ++ k.texts;
    worded = writes_all_more v.worded a.said b.said h.texts k.texts h.worded k.worded;
    text_is = (λ i. h.text_is i ++ k.text_is i) ∙ printed-more h.texts k.texts;
    notices = h.notices ++ k.notices;
    noted = notes_all_more v.noted a.dealt b.dealt h.notices k.notices h.noted k.noted;
    notes_are = (λ i. h.notes_are i ++ k.notes_are i) ∙ printed-more h.notices k.notices;
  }

  -- texts of a line's own answer, of which nothing is noted
  pub says_answer : (said : List Said) (texts : List (List ℕ)) (text : List ℕ) → WritesAll v.worded said texts → text ≡ printed texts → Says v (answering said) text []
  says_answer said texts text w e = record { texts = texts; worded = w; text_is = e; notices = []; noted = refl; notes_are = refl }

  -- and of a delivery
  pub says_dealing : (said : List Said) (texts notices : List (List ℕ)) → WritesAll v.worded said texts → NotesAll v.noted said notices → Says v (dealing said) (printed texts) (printed notices)
  says_dealing said texts notices w n = record { texts = texts; worded = w; text_is = refl; notices = notices; noted = n; notes_are = refl }

  -- ---- what went out

  pub sends_none : (old : Outs) → Sends v old old silence
  sends_none old = record { text = []; notes = []; says = says_none; texts_out = appends-itself old.texts; notes_out = appends-itself old.notes }

  pub sends_then : (old between new : Outs) (a b : Speech) → Sends v old between a → Sends v between new b → Sends v old new (and_then a b)
  sends_then old between new a b h k = record {
    text = h.text ++ k.text;
    notes = h.notes ++ k.notes;
    says = says_then a b h.text h.notes k.text k.notes h.says k.says;
    texts_out = appends-then old.texts between.texts new.texts h.text k.text h.texts_out k.texts_out;
    notes_out = appends-then old.notes between.notes new.notes h.notes k.notes h.notes_out k.notes_out;
  }

  pub sends_keeps : (old between new : Outs) (a : Speech) → Sends v old between a → KeepsOuts between new → Sends v old new a
  sends_keeps old between new a h kept = record {
    text = h.text;
    notes = h.notes;
    says = h.says;
    texts_out = appends-keeps old.texts between.texts new.texts h.text h.texts_out kept.0;
    notes_out = appends-keeps old.notes between.notes new.notes h.notes h.notes_out kept.1;
  }

pub keeps_outs : (o : Outs) → KeepsOuts o o
keeps_outs o = (keeps-itself o.texts, keeps-itself o.notes)
