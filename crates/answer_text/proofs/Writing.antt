-- Texts written one after another are one text.
use mathlib.Core.Path.{◌≡◌, refl, sym, ◌∙◌, ap}
use mathlib.Core.List.{List, [], ◌∷◌, ◌++◌, append_assoc, append-nil}
use Prim.Native.Nat.{ℕ, ◌+◌, ◌≤◌, ◌<◌}
use native.Mathlib.Omega.{arith}
use lib.ListN.{length, set, length-append}
use lib.Seq.{drop-drop}
use borrow.Rule.Slice.PartMut.{put_mid}
use Rattle.wire.specs.Bytes.{splice}
use Rattle.wire.proofs.Parts.{splice-none, set-splice, length-splice, splice-splice}
use Rattle.answer_text.specs.Answer.{TextRoom, Writes}

-- Texts one after another.
abbrev pub joined : List (List ℕ) → List ℕ
joined [] = []
joined (a ∷ ps) = a ++ joined ps

-- Part of a text was written from a place on, up to another; pieces are left to write.
pub record Left (whole out : List ℕ) (at : ℕ) (pieces : List (List ℕ)) (now : List ℕ) (place : ℕ) : Type 0 where
  pub text : List ℕ
  pub fits : TextRoom whole out at
  pub is : now ≡ splice out at text
  pub end : place ≡ at + length text
  pub all : text ++ joined pieces ≡ whole

module _ {whole out : List ℕ} {at : ℕ} where
  pub start : (ps : List (List ℕ)) → joined ps ≡ whole → TextRoom whole out at → Left whole out at ps out at
  start ps e h = record { text = []; fits = h; is = sym (splice-none out at); end = omega arith; all = e }

  lengths : {ps : List (List ℕ)} {now : List ℕ} {p : ℕ} (l : Left whole out at ps now p) → length l.text + length (joined ps) ≡ length whole
  lengths {ps} l = sym (length-append l.text (joined ps)) ∙ ap length l.all

  inside : {ps : List (List ℕ)} {now : List ℕ} {p : ℕ} (l : Left whole out at ps now p) → at + length l.text ≤ length out
  inside l = omega (arith, lengths l, l.fits)

  -- The slice is as long as before.
  pub as_long : {ps : List (List ℕ)} {now : List ℕ} {p : ℕ} → Left whole out at ps now p → length now ≡ length out
  as_long l = ap length l.is ∙ length-splice out at l.text (inside l)

  -- What comes next has room.
  pub room : {a : List ℕ} {ps : List (List ℕ)} {now : List ℕ} {p : ℕ} → Left whole out at (a ∷ ps) now p → TextRoom a now p
  room {a} {ps} l = omega (arith, lengths l, length-append a (joined ps), as_long l, l.fits, l.end)

  -- It is written.
  pub next : {a : List ℕ} {ps : List (List ℕ)} {now after : List ℕ} {p r : ℕ} → Left whole out at (a ∷ ps) now p → Writes a now p after r
      → Left whole out at ps after r
  next {a} {ps} {p = p} l w = record {
    text = l.text ++ a;
    fits = l.fits;
    is = w.is
        ∙ ap (λ (s : List ℕ). splice s p a) l.is
        ∙ ap (λ (k : ℕ). splice (splice out at l.text) k a) l.end
        ∙ splice-splice out at l.text (inside l) a;
    end = omega (arith, w.end, l.end, length-append l.text a);
    all = append_assoc l.text a (joined ps) ∙ l.all;
  }

  -- All is written.
  pub done : {now : List ℕ} {p : ℕ} → Left whole out at [] now p → Writes whole out at now p
  done l = record {
    is = l.is ∙ ap (splice out at) (sym (append-nil l.text) ∙ l.all);
    end = omega (arith, l.end, lengths l);
  }

  -- The same pieces told in another way.
  pub retell : {ps : List (List ℕ)} (qs : List (List ℕ)) {now : List ℕ} {p : ℕ} → joined ps ≡ joined qs → Left whole out at ps now p
      → Left whole out at qs now p
  retell qs e l = record { text = l.text; fits = l.fits; is = l.is; end = l.end; all = ap (λ (t : List ℕ). l.text ++ t) (sym e) ∙ l.all }

-- A store is a text of one byte.
pub byte-writes : (b : ℕ) (s : List ℕ) (at : ℕ) → at < length s → Writes (b ∷ []) s at (set s at b) (at + 1)
byte-writes b s at h = record { is = set-splice s at b h; end = refl }

-- A text that was copied over a part as long as it.
pub copied : (text out : List ℕ) (at n : ℕ) {mid : List ℕ} → mid ≡ text → n ≡ length text → Writes text out at (put_mid at n out mid) (at + length text)
unfolding splice
copied text out at n e h = record { is = rw (e, h, drop-drop (length text) at out) refl; end = refl }
