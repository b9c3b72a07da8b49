-- Where a token stands in a phrase, the tokens from the phrase on begin one.
use Rattle.std.proofs.Common.{◌≡◌, ◌⊎◌, ℕ, zero, suc, ◌<◌, ◌≤◌, Bool, true, false, ◌&&◌, ◌||◌, not, inl, inr, List, [], ◌∷◌, length, refl, ap, ap₂, sym, ◌∙◌, arith, subst}
use Rattle.std.proofs.lemmas.Bool.{not-true}
use Rattle.cv_syntax_trees.specs.Tree.{Tree}
use Rattle.cv_parse_notation.specs.Marks.{every_mark}
use Rattle.cv_parse_notation.specs.ScriptWords.{every_word}
use Rattle.cv_parse_notation.specs.declared.script.ScriptWord.{ScriptWord}
use Rattle.cv_parse_notation.specs.declared.sign.Mark.{Mark}
use Rattle.cv_parse_notation.specs.declared.sign.Sign.{Sign}
use Rattle.cv_parse_notation.specs.Fits.{all_kinds, all_marks, all_words, apart}
use Rattle.cv_parse_notation.specs.Form.{Form, sign, script_word, word, number, nought, find_word, unnamed, other, note, both, may, many, either, made, level, deeper}
use Rattle.cv_parse_notation.specs.Spells.{Kind, AWord, ANumber, Zero, AFind, AnUnnamed, AMark, kind_of, is_mark, is_script_word, is_word, is_number, is_zero, is_find, is_unnamed, is_other, may_vanish, starts, starts_both, next_is, Use, Spells, IsSort}
use Rattle.cv_parse_notation.proofs.Complete.{front, within_next, next_first, next_second, first_both, second_both}
use Rattle.cv_parse_notation.proofs.Lengths.{lengths}
use Rattle.cv_parse_notation.proofs.Sorts.{begins, parts, shorter}
use Rattle.cv_parse_grammar.specs.depth.Depth.{InTurn, here, later, IsNext, Stands, StandsBelow}
use Rattle.cv_parse_grammar.proofs.depth.Agreement.{IsFirm}

-- kinds that are apart

not_both : (a b : Bool) → not (a && not (not b)) ≡ not (a && b)
not_both true true = refl
not_both true false = refl
not_both false b = refl

not_next : (q : Kind → Bool) (ts : List Sign) → next_is (λ k. not (q k)) ts ≡ true → next_is q ts ≡ false
not_next q [] e = refl
not_next q (t ∷ ts) e = not-true (q (kind_of t)) e

-- of two kinds

-- a token of the kind is next, and the rest is no longer
pub record Begins (p : Kind → Bool) (ts rest : List Sign) : Type 0 where
  pub next : next_is p ts ≡ true
  pub enough : length rest ≤ length ts

begins_here : (p : Kind → Bool) (depth own : ℕ) (ts rest : List Sign) → IsNext p depth own ts rest → Begins p ts rest
begins_here p depth own ts rest d = record { next = subst (λ us. next_is p us ≡ true) (sym d.place) d.fits; enough = let e = ap length d.place in omega arith }

begins_as : (p q : Kind → Bool) (ts rest : List Sign) → (next_is p ts ≡ true → next_is q ts ≡ true) → Begins p ts rest → Begins q ts rest
begins_as p q ts rest f b = record { next = f b.next; enough = b.enough }

module _ {R σ : Type 0} (h : σ → Kind → Bool) (sorts : σ → List Sign → Tree → List (Use R) → List Sign → Type 0) (heads : (s : σ) (ts : List Sign) (t : Tree) (us : List (Use R)) (rest : List Sign) → sorts s ts t us rest → next_is (h s) ts ≡ true) (fewer : (s : σ) (ts : List Sign) (t : Tree) (us : List (Use R)) (rest : List Sign) → sorts s ts t us rest → length rest < length ts) (below : σ → List Sign → List Sign → Type 0) (b : (s : σ) (ts rest : List Sign) → below s ts rest → Begins (h s) ts rest) (depth : ℕ) where
  -- behind a phrase
  begins_behind : {A : Type 0} (f : Form R σ A) (q : Kind → Bool) (ts : List Sign) (a : A) (us : List (Use R)) (mid rest : List Sign) → Spells h true sorts f ts a us mid → Begins q mid rest → Begins (starts_both (may_vanish f) (starts h f) q) ts rest
  begins_behind f q ts a us mid rest d g = record { next = go (front h true sorts heads f ts a us mid d); enough = let l = lengths h true sorts fewer f ts a us mid d in let e = g.enough in omega arith }
    where
      go : (next_is (starts h f) ts ≡ true) ⊎ ((ts ≡ mid) × (may_vanish f ≡ true)) → next_is (starts_both (may_vanish f) (starts h f) q) ts ≡ true
      go (inl e) = first_both (may_vanish f) (starts h f) q ts e
      go (inr e) = second_both (may_vanish f) (starts h f) q ts e.1 (subst (λ us. next_is q us ≡ true) (sym e.0) g.next)

  same_both : (v : Bool) (p : Kind → Bool) (ts : List Sign) → next_is (starts_both v p p) ts ≡ true → next_is p ts ≡ true
  same_both true p [] e = e
  same_both true p (t ∷ ts) e = go (p (kind_of t)) e
    where
      go : (b : Bool) → (b || b) ≡ true → b ≡ true
      go true e = refl
      go false e = e
  same_both false p ts e = e

  pub begins_turn : {A : Type 0} (f : Form R σ A) (Holds : List Sign → Type 0) (rest : List Sign) → ((ts : List Sign) → Holds ts → Begins (starts h f) ts rest) → (ts : List Sign) → InTurn (Spells h true sorts f) Holds ts → Begins (starts h f) ts rest
  begins_turn f Holds rest k ts (here d) = k ts d
  begins_turn f Holds rest k ts (later {mid = mid} a us d e) =
      let i = begins_behind f (starts h f) ts a us mid rest d (begins_turn f Holds rest k mid e) in
      begins_as (starts_both (may_vanish f) (starts h f) (starts h f)) (starts h f) ts rest (same_both (may_vanish f) (starts h f) ts) i

  pub stands_begins : {A : Type 0} (f : Form R σ A) (own : ℕ) (ts rest : List Sign) → Stands h sorts below depth own f ts rest → Begins (starts h f) ts rest
  stands_begins (sign m) own ts rest d = begins_here (is_mark m) depth own ts rest d
  stands_begins (script_word w) own ts rest d = begins_here (is_script_word w) depth own ts rest d
  stands_begins (word r) own ts rest d = begins_here is_word depth own ts rest d
  stands_begins number own ts rest d = begins_here is_number depth own ts rest d
  stands_begins nought own ts rest d = begins_here is_zero depth own ts rest d
  stands_begins find_word own ts rest d = begins_here is_find depth own ts rest d
  stands_begins (unnamed r) own ts rest d = begins_here is_unnamed depth own ts rest d
  stands_begins other own ts rest d = begins_here is_other depth own ts rest d
  stands_begins (note r) own ts rest d = absurd d
  stands_begins (both f g) own ts rest (inl d) = begins_as (starts h f) (starts h (both f g)) ts rest (first_both (may_vanish f) (starts h f) (starts h g) ts) (stands_begins f own ts rest d)
  stands_begins (both f g) own ts rest (inr d) = begins_behind f (starts h g) ts d.value d.uses d.mid rest d.phrase (stands_begins g own d.mid rest d.holds)
  stands_begins (may near f) own ts rest d = stands_begins f own ts rest d
  stands_begins (many near f) own ts rest d = begins_turn f (λ mid. Stands h sorts below depth own f mid rest) rest (λ us e. stands_begins f own us rest e) ts d
  stands_begins (either f g) own ts rest (inl d) = begins_as (starts h f) (starts h (either f g)) ts rest (next_first (starts h f) (starts h g) ts) (stands_begins f own ts rest d)
  stands_begins (either f g) own ts rest (inr d) = begins_as (starts h g) (starts h (either f g)) ts rest (next_second (starts h f) (starts h g) ts) (stands_begins g own ts rest d.1)
  stands_begins (made v f) own ts rest d = stands_begins f own ts rest d
  stands_begins (level f) own ts rest d = stands_begins f 1 ts rest d
  stands_begins (deeper s) own ts rest d = b s ts rest d

module _ {R σ : Type 0} (h t : σ → Kind → Bool) (rule : σ → Form R σ Tree) (w : (s : σ) → IsFirm h t rule s) where
  pub below_begins : (n depth : ℕ) (s : σ) (ts rest : List Sign) → StandsBelow h rule n depth s ts rest → Begins (h s) ts rest
  unfolding StandsBelow
  below_begins n zero s ts rest d = absurd d
  below_begins n (suc depth) s ts rest d =
      let p = parts h t rule s (w s).fitting in
      begins_as (starts h (rule s)) (h s) ts rest (within_next (starts h (rule s)) (h s) p.heads ts) (stands_begins h (IsSort h rule n) (begins h t rule (λ s. (w s).fitting) n) (shorter h t rule (λ s. (w s).fitting) n) (StandsBelow h rule n depth) (below_begins n depth) depth (rule s) 0 ts rest d)
