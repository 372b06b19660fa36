-- What is sent where a write fails.
use Rattle.std.proofs.Common.{◌≡◌, inl, inr, ℕ, ◌<◌, List, [], ◌∷◌, ◌++◌, Option, refl, sym, ap, ◌∙◌, subst, append_assoc, length, map, arith}
use Rattle.std.proofs.lemmas.List.{map-append}
use Rattle.std.specs.Iterator.{Yields}
use Rattle.std.specs.Vec.Iter.{into_iter_items, into_iter_steps}
use Rattle.std.specs.declared.vec.IntoIter.{IntoIter}
use Rattle.tungstenite.proofs.SocketLemmas.{io-outside}
use Rattle.tungstenite.specs.Failure.{IsIo, WriteFails}
use Rattle.tungstenite.specs.Socket.{Socket, Flushed, Writes}
use Rattle.tungstenite.specs.declared.error.Error.{Error}
use Rattle.tungstenite.specs.declared.error.Error.TheVariants as errors
use Rattle.websocket.specs.Connection.{Connection, write_step}
use Rattle.websocket.specs.Content.{text}
use Rattle.serve_sockets.specs.Kept.{HasNoRoom}
use Rattle.serve_sockets.specs.Sending.{SentAll, Stops, IsWant}
use Rattle.serve_sockets.proofs.Sendings.{sent_nothing, sent_then, sent_flushed, wrote}

module _ {S : Type 0} (contents : S → Option (List ℕ)) where
  -- a want leaves the socket as it was
  kept : (a b : Socket S) (e : Error) → (e ≡ errors.WriteBufferFull → b ≡ a) → (e ≡ errors.OutOfMemory → b ≡ a) → IsWant e → SentAll contents a b []
  kept a b e full memory (inl no_memory) = subst (λ x. SentAll contents a x []) (sym (memory no_memory)) (sent_nothing contents a)
  kept a b e full memory (inr no_room) = subst (λ x. SentAll contents a x []) (sym (full no_room)) (sent_nothing contents a)

  -- the one text was not written
  pub stops_at : (a b : Socket S) (words : List ℕ) (e : Error) → WriteFails (write_step a.conn (text words)) e
      → (e ≡ errors.WriteBufferFull → (b ≡ a) × HasNoRoom a.output (length words))
      → (IsIo e → Writes contents a b (write_step a.conn (text words))) → (e ≡ errors.OutOfMemory → b ≡ a) → Stops contents a b (words ∷ []) e
  stops_at a b words e fails full failed memory =
      record {
        front = [];
        words = words;
        rest = [];
        texts_are = refl;
        fails = fails;
        taken = λ io. wrote contents a b words (failed io);
        kept = kept a b e (λ is. (full is).0) memory;
        full = λ is. subst (λ (x : Socket S). HasNoRoom x.output (length words)) (sym (full is).0) (full is).1;
      }

  abbrev is_lack : Error → Type 0
  is_lack errors.OutOfMemory = Unit {0}
  is_lack _ = ⊥

  -- there was no memory for it
  pub stops_for_memory : (a : Socket S) (words : List ℕ) → Stops contents a a (words ∷ []) errors.OutOfMemory
  stops_for_memory a words =
      stops_at a a words errors.OutOfMemory (inr (inl tt)) (λ is. absurd (subst is_lack is tt)) (λ e. absurd e) (λ e. refl)

  -- a text behind others that were sent
  pub stops_behind : (a b d : Socket S) (xs : List (List ℕ)) (w : List ℕ) (rest all : List (List ℕ)) (e : Error) → SentAll contents a b xs → Stops contents b d (w ∷ []) e → all ≡ xs ++ w ∷ rest
      → Stops contents a d all e
  stops_behind a b d xs w rest all e h s are =
      let inner : w ∷ rest ≡ (s.front ++ s.words ∷ s.rest) ++ rest = ap (λ l. l ++ rest) s.texts_are in
      let tail : List (List ℕ) = s.words ∷ (s.rest ++ rest) in
      let split : all ≡ (xs ++ s.front) ++ tail =
      are ∙ ap (λ l. xs ++ l) (inner ∙ append_assoc s.front (s.words ∷ s.rest) rest) ∙ sym (append_assoc xs s.front tail) in
      record {
        front = xs ++ s.front;
        words = s.words;
        rest = s.rest ++ rest;
        texts_are = split;
        fails = subst (λ (c : Connection). WriteFails (write_step c (text s.words)) e) h.conn s.fails;
        taken = λ io. subst (λ l. SentAll contents a d l) (sym (append_assoc xs s.front (s.words ∷ []))) (sent_then contents a b d xs (s.front ++ s.words ∷ []) h (s.taken io));
        kept = λ want. sent_then contents a b d xs s.front h (s.kept want);
        full = s.full;
      }

  record Last (texts : List (List ℕ)) : Type 0 where
    front : List (List ℕ)
    words : List ℕ
    are : texts ≡ front ++ words ∷ []

  last_of : (texts : List (List ℕ)) → 0 < length texts → Last texts
  last_of [] lt = absurd (omega arith)
  last_of (t ∷ []) lt = record { front = []; words = t; are = refl }
  last_of (t ∷ u ∷ us) lt =
      let k = last_of (u ∷ us) (omega arith) in
      record { front = t ∷ k.front; words = k.words; are = ap (λ l. t ∷ l) k.are }

  not_want : (e : Error) → IsIo e → IsWant e → ⊥
  not_want e io (inl no_memory) = subst IsIo no_memory io
  not_want e io (inr no_room) = subst IsIo no_room io

  -- all were written, and the flush failed
  pub stops_at_flush : (a b d : Socket S) (texts : List (List ℕ)) (e : Error) → 0 < length texts → SentAll contents a b texts → Flushed contents b d → IsIo e → Stops contents a d texts e
  stops_at_flush a b d texts e some h flushed io =
      let k = last_of texts some in
      record {
        front = k.front;
        words = k.words;
        rest = [];
        texts_are = k.are;
        fails = inr (inl (io-outside e io));
        taken = λ _. subst (λ l. SentAll contents a d l) k.are (sent_flushed contents a b d texts h flushed);
        kept = λ want. absurd (not_want e io want);
        full = λ is. absurd (not_want e io (inr is));
      }

-- what the iterator of a vector has given is a front of its items
pub taken_front : {X A : Type 0} (s : IntoIter X A) (xs : List X) (t : IntoIter X A) → Yields into_iter_steps s xs t → into_iter_items s ≡ xs ++ into_iter_items t
taken_front s [] t y = ap into_iter_items y
taken_front s (x ∷ xs) t y = y.1.0 ∙ ap (λ ys. x ∷ ys) (taken_front y.0 xs t y.2)

-- a list, by those before an element, that one, and those behind it
pub split_at : {X : Type 0} (f : X → List ℕ) (all xs rest : List X) (x : X) → all ≡ (xs ++ x ∷ []) ++ rest → map f all ≡ map f xs ++ f x ∷ map f rest
split_at f all xs rest x e = ap (λ l. map f l) (e ∙ append_assoc xs (x ∷ []) rest) ∙ map-append f xs (x ∷ rest)

pub some_mapped : {X : Type 0} (f : X → List ℕ) (xs : List X) → 0 < length xs → 0 < length (map f xs)
some_mapped f [] lt = absurd (omega arith)
some_mapped f (x ∷ xs) lt = omega arith
