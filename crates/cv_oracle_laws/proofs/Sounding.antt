-- What is written for tokens of the lexis are such tokens, and oracles are names.
use Rattle.std.proofs.Common.{◌≡◌, ℕ, Bool, true, false, if◌then◌else◌, ◌&&◌, ◌||◌, List, [], ◌∷◌, ◌++◌, map, codes, refl, sym, Option, Some, None}
use Rattle.std.specs.List.{AllByRecursion}
use Rattle.std.specs.Str.{bytes_eq}
use Rattle.cv_lex.specs.declared.TokenKind.{TokenKind}
use Rattle.cv_lex.specs.declared.TokenKind.TheVariants as kind
use Rattle.cv_lex.specs.Lexis.{Token}
use Rattle.cv_library.specs.Libraries.{is_among}
use Rattle.cv_parse_tables.specs.spelling.Spelling.{mark_of_text}
use Rattle.cv_oracles.specs.declared.form.Mode.{Mode}
use Rattle.cv_oracles.specs.declared.form.Mode.TheVariants as mode
use Rattle.cv_oracles.specs.declared.frames.Opening.{Opening}
use Rattle.cv_oracles.specs.declared.frames.Sought.TheVariants as sought
use Rattle.cv_oracles.specs.declared.words.Piece.{Piece}
use Rattle.cv_oracles.specs.declared.words.Piece.TheVariants.{Own, Oracle, The}
use Rattle.cv_oracles.specs.declared.words.Word.{Word}
use Rattle.cv_oracles.specs.declared.words.Word.TheVariants.{In, Channel, Comma, Dot}
use Rattle.cv_oracles.specs.Pieces.{word_for}
use Rattle.cv_oracles.specs.Readings.{is_input, opening_of}
use Rattle.cv_oracles.specs.Regions.{is_name}
use Rattle.cv_oracles.specs.Translations.{ends_declarations}
use Rattle.cv_oracle_laws.specs.OracleFiles.{and_others, declared_as_channels, new_among}
use Rattle.cv_oracle_laws.proofs.Runs.{Opened, State, at, behind_one, defines, from_one, is_one, move_at, notes, opens_by, oracle_of, piece_of, writes}
use Rattle.cv_oracle_laws.proofs.Signed.{AreSound, Sound, both_sound}
use Rattle.cv_oracle_laws.proofs.Texts.{isnt, reserved_is_no_name}

pub word_sound : (w : Word) → Sound (word_for w 0)
word_sound In = (refl, λ e. absurd (cc))
word_sound w = (refl, λ e. absurd (cc))

abbrev FramesSound : List Opened → Type 0
FramesSound fs = AllByRecursion (λ f. Sound f.oracle) fs

record StateSound (s : State) : Type 0 where
  oracle : Sound s.oracle
  frames : FramesSound s.frames

pieces_sound : (o t : Token) (ps : List Piece) → Sound o → Sound t → AreSound (map (piece_of o t) ps)
pieces_sound o t [] a b = tt
pieces_sound o t (Own ∷ ps) a b = (b, pieces_sound o t ps a b)
pieces_sound o t (Oracle ∷ ps) a b = (a, pieces_sound o t ps a b)
pieces_sound o t (The w ∷ ps) a b = (word_sound w, pieces_sound o t ps a b)

state_if : (b : Bool) (s r : State) → StateSound s → StateSound r → StateSound (if b then s else r)
state_if true s r x y = x
state_if false s r x y = y

frames_if : (b : Bool) (fs gs : List Opened) → FramesSound fs → FramesSound gs → FramesSound (if b then fs else gs)
frames_if true fs gs x y = x
frames_if false fs gs x y = y

from_sound : (is : Opened → Bool) (fs : List Opened) → FramesSound fs → FramesSound (from_one is fs)
from_sound is [] h = tt
from_sound is (f ∷ fs) (h, hs) = frames_if (is f) (f ∷ fs) (from_one is fs) (h, hs) (from_sound is fs hs)

behind_sound : (fs : List Opened) → FramesSound fs → FramesSound (behind_one fs)
behind_sound [] h = tt
behind_sound (f ∷ fs) (h, hs) = hs

oracle_sound : (fs : List Opened) (o : Token) → FramesSound fs → Sound o → Sound (oracle_of fs o)
oracle_sound [] o h x = x
oracle_sound (f ∷ fs) o (h, hs) x = h

opens_sound : (s : State) (p : Option Opening) → StateSound s → StateSound (opens_by s p)
opens_sound s None h = h
opens_sound s (Some p) h = record { oracle = h.oracle; frames = (h.oracle, h.frames) }

notes_sound : (m : Mode) (s : State) (kind : TokenKind) (text : List ℕ) (t : Token) → StateSound s → Sound t → StateSound (notes m s kind text t)
notes_sound mode.Input s kind text t h x =
    state_if (bytes_eq text (codes "(")) _ _ (record { oracle = h.oracle; frames = (h.oracle, h.frames) }) (state_if (is_name kind text) _ _ (record { oracle = x; frames = h.frames }) h)
notes_sound mode.Output s kind text t h x = opens_sound s (opening_of text) h
notes_sound mode.Behind s kind text t h x =
    let tests = from_sound (is_one sought.Test) s.frames h.frames in
    let finds = from_sound (is_one sought.Find) s.frames h.frames in
    let parens = from_sound (is_one sought.Parenthesis) s.frames h.frames in
    state_if (bytes_eq text (codes ")")) _ _ (record { oracle = h.oracle; frames = behind_sound (from_one (is_one sought.Parenthesis) s.frames) parens }) (
    state_if (bytes_eq text (codes "else")) _ _ (record { oracle = oracle_sound (from_one (is_one sought.Test) s.frames) s.oracle tests h.oracle; frames = behind_sound (from_one (is_one sought.Test) s.frames) tests }) (
    state_if (bytes_eq text (codes "orfind")) _ _ (record { oracle = oracle_sound (from_one (is_one sought.Find) s.frames) s.oracle finds h.oracle; frames = finds }) h
    ))
notes_sound m s kind text t h x = h

writes_sound : (s : State) (us : List Token) → StateSound s → AreSound us → AreSound (writes s us)
unfolding writes
writes_sound s [] h x = tt
writes_sound s (t ∷ us) h (x, xs) =
    let n = notes_sound s.mode s t.kind t.text t h x in
    both_sound (move_at s t us).written (writes (move_at s t us).after us) (pieces_sound s.oracle t _ h.oracle x) (writes_sound (move_at s t us).after us (record { oracle = n.oracle; frames = n.frames }) xs)

pub process_sound : (o : Token) (us : List Token) → Sound o → AreSound us → AreSound (writes (at mode.Input o []) us)
process_sound o us x xs = writes_sound (at mode.Input o []) us (record { oracle = x; frames = tt }) xs

-- oracles

abbrev pub AreNames : List Token → Type 0
AreNames os = AllByRecursion (λ o. is_name o.kind o.text ≡ true) os

names_if : (b c : Bool) (t : Token) (os : List Token) → c ≡ is_name t.kind t.text → AreNames os → AreNames ((if b && c then t ∷ [] else []) ++ os)
names_if true true t os e h = (sym e, h)
names_if true false t os e h = h
names_if false c t os e h = h

pub defines_names : (s : State) (us : List Token) → AreNames (defines s us)
unfolding defines
defines_names s [] = tt
defines_names s (t ∷ us) = names_if (is_input s.mode) (is_name t.kind t.text) t (defines (move_at s t us).after us) refl (defines_names (move_at s t us).after us)

new_names : (before : List (List ℕ)) (os : List Token) → AreNames os → AreNames (new_among before os)
new_names before [] h = tt
new_names before (o ∷ os) (h, hs) = by_among (is_among before o.text) (new_names before os hs) (new_names (before ++ o.text ∷ []) os hs) where
  by_among : (b : Bool) → AreNames (new_among before os) → AreNames (new_among (before ++ o.text ∷ []) os) → AreNames (if b then new_among before os else o ∷ new_among (before ++ o.text ∷ []) os)
  by_among true x y = x
  by_among false x y = (h, y)

-- a name ends no declarations, and isn't the end
name_ends_none : (o : Token) → is_name o.kind o.text ≡ true → ends_declarations o.text ≡ false
unfolding mark_of_text
name_ends_none o h =
    let a = isnt o.kind o.text (codes "proof") h (reserved_is_no_name o.kind (codes "proof") refl) in
    let b = isnt o.kind o.text (codes "process") h (reserved_is_no_name o.kind (codes "process") refl) in
    λ i. a i || b i

name_sound : (k : TokenKind) (text : List ℕ) → is_name k text ≡ true → Sound (record { kind = k; text = text; offset = 0 })
name_sound kind.Ident text h = (refl, λ e. absurd (cc))
name_sound k text h = absurd (cc)

abbrev pub EndNone : List Token → Type 0
EndNone ts = AllByRecursion (λ t. ends_declarations t.text ≡ false) ts

others_fine : (os : List Token) → AreNames os → AreSound (and_others os) × EndNone (and_others os)
others_fine [] h = ((word_sound Dot, tt), (refl, tt))
others_fine (o ∷ os) (h, hs) = let r = others_fine os hs in ((word_sound Comma, (name_sound o.kind o.text h, r.0)), (refl, (name_ends_none o h, r.1)))

channels_fine : (os : List Token) → AreNames os → AreSound (declared_as_channels os) × EndNone (declared_as_channels os)
channels_fine [] h = (tt, tt)
channels_fine (o ∷ os) (h, hs) = let r = others_fine os hs in ((word_sound Channel, (name_sound o.kind o.text h, r.0)), (refl, (name_ends_none o h, r.1)))

pub declaration_fine : (s : State) (us : List Token) → AreSound (declared_as_channels (new_among [] (defines s us))) × EndNone (declared_as_channels (new_among [] (defines s us)))
declaration_fine s us = channels_fine (new_among [] (defines s us)) (new_names [] (defines s us) (defines_names s us))
