-- What phrases of the file are made of: their parts, in order.
use Rattle.std.proofs.Common.{◌≡◌, ℕ, zero, suc, Bool, true, false, ◌&&◌, ◌⊎◌, inl, inr, IsTrue, List, [], ◌∷◌, ◌++◌, refl, ap, sym, ◌∙◌, subst, Option, Some, None}
use Rattle.std.specs.List.{AllByRecursion}
use Rattle.std.proofs.lemmas.Bool.{and_parts}
use Rattle.std.proofs.lemmas.List.{append_assoc}
use Rattle.cv_syntax_trees.specs.Tree.{Tree}
use Rattle.cv_parse_notation.specs.declared.script.ScriptWord.{ScriptWord}
use Rattle.cv_parse_notation.specs.declared.sign.Mark.{Mark}
use Rattle.cv_parse_notation.specs.declared.sign.Sign.{Sign}
use Rattle.cv_parse_notation.specs.declared.sign.Sign.TheVariants as token
use Rattle.cv_parse_notation.specs.Form.{sign, script_word, word, number, nought, find_word, unnamed, other, note, both, may, many, either, made, level, deeper, ◌▸◌, ◌◂◌}
use Rattle.cv_parse_notation.specs.Spells.{Each, IsSort, Kind, Perhaps, Relation, Spells, Use, next_is, no_sort, starts}
use Rattle.cv_parse_grammar.specs.declared.role.Role.{Role}
use Rattle.cv_parse_grammar.specs.Phrases.{Phrase, Sort}
use Rattle.cv_parse_grammar.specs.Rules.{heads, rule}

-- the sorts one level down, where so many levels are left
abbrev pub room : ℕ → Bool
room zero = false
room (suc n) = true

abbrev pub below : ℕ → Sort → Relation Role Tree
below zero = no_sort
below (suc n) = IsSort heads rule n

-- the signs begin with a phrase of the form
pub record Is {A : Type 0} (n : ℕ) (f : Phrase A) (ts rest : List Sign) : Type 0 where
  pub value : A
  pub uses : List (Use Role)
  pub spelled : Spells heads (room n) (below n) f ts value uses rest

-- a phrase of a sort
pub record IsOne (n : ℕ) (s : Sort) (ts rest : List Sign) : Type 0 where
  pub value : Tree
  pub uses : List (Use Role)
  pub spelled : IsSort heads rule n s ts value uses rest

pub by_row : (n : ℕ) (s : Sort) (ts rest : List Sign) → IsOne n s ts rest → Is n (rule s) ts rest
unfolding IsSort
by_row zero s ts rest x = record { value = x.value; uses = x.uses; spelled = x.spelled }
by_row (suc n) s ts rest x = record { value = x.value; uses = x.uses; spelled = x.spelled }

-- one level down
pub at_sort : (n : ℕ) (s : Sort) (ts rest : List Sign) → Is (suc n) (deeper s) ts rest → IsOne n s ts rest
at_sort n s ts rest x = record { value = x.value; uses = x.uses; spelled = x.spelled }

pub no_level : {s : Sort} {ts rest : List Sign} → Is zero (deeper s) ts rest → ⊥
no_level x = x.spelled

module _ {n : ℕ} where
  pub is_made : {A B : Type 0} {v : A → B} {f : Phrase A} {ts rest : List Sign} → Is n (made v f) ts rest → Is n f ts rest
  is_made x = record { value = x.spelled.0; uses = x.uses; spelled = x.spelled.1 }

  pub is_level : {A : Type 0} {f : Phrase A} {ts rest : List Sign} → Is n (level f) ts rest → IsTrue (room n) × Is n f ts rest
  is_level x = (x.spelled.0, record { value = x.value; uses = x.uses; spelled = x.spelled.1 })

  pub is_both : {A B : Type 0} {f : Phrase A} {g : Phrase B} {ts rest : List Sign} → Is n (both f g) ts rest → (mid : List Sign) × Is n f ts mid × Is n g mid rest
  is_both x = (x.spelled.mid, record { value = x.value.0; uses = x.spelled.front; spelled = x.spelled.first }, record { value = x.value.1; uses = x.spelled.back; spelled = x.spelled.second })

  pub is_sign : {m : Mark} {ts rest : List Sign} → Is n (sign m) ts rest → ts ≡ token.Mark m ∷ rest
  is_sign x = x.spelled.tokens

  pub is_behind : {A : Type 0} {m : Mark} {f : Phrase A} {ts rest : List Sign} → Is n (m ▸ f) ts rest → (mid : List Sign) × (ts ≡ token.Mark m ∷ mid) × Is n f mid rest
  is_behind x = let b = is_both (is_made x) in (b.0, is_sign b.1, b.2)

  pub is_before : {A : Type 0} {m : Mark} {f : Phrase A} {ts rest : List Sign} → Is n (f ◂ m) ts rest → Is n f ts (token.Mark m ∷ rest)
  is_before {f = f} {ts} x = let b = is_both (is_made x) in subst (λ l. Is n f ts l) (is_sign b.2) b.1

  pub is_word : {r : Role} {ts rest : List Sign} → Is n (word r) ts rest → (x : ℕ) × (w : ScriptWord) × (ts ≡ token.Word x w ∷ rest)
  is_word x = (x.value, x.spelled.script, x.spelled.tokens)

  pub is_either : {A : Type 0} {f g : Phrase A} {ts rest : List Sign} → Is n (either f g) ts rest → Is n f ts rest ⊎ Is n g ts rest
  is_either {f = f} {g} {ts} {rest} x = elim x.spelled as (λ _. Is n f ts rest ⊎ Is n g ts rest) [
    | inl a ↦ inl (record { value = x.value; uses = x.uses; spelled = a })
    | inr a ↦ inr (record { value = x.value; uses = x.uses; spelled = a.1 })
  ]

  -- the second, where the first can't begin
  pub is_first_or : {A : Type 0} {f g : Phrase A} {ts rest : List Sign} → Is n (either f g) ts rest → Is n f ts rest ⊎ ((next_is (starts heads f) ts ≡ false) × Is n g ts rest)
  is_first_or {f = f} {g} {ts} {rest} x = elim x.spelled as (λ _. Is n f ts rest ⊎ ((next_is (starts heads f) ts ≡ false) × Is n g ts rest)) [
    | inl a ↦ inl (record { value = x.value; uses = x.uses; spelled = a })
    | inr a ↦ inr (a.0, record { value = x.value; uses = x.uses; spelled = a.1 })
  ]

  pub is_may : {A : Type 0} {near : Bool} {f : Phrase A} {ts rest : List Sign} → Is n (may near f) ts rest → ((ts ≡ rest) × (IsTrue near → next_is (starts heads f) ts ≡ false)) ⊎ Is n f ts rest
  is_may {A} {near} {f} {ts} {rest} x = go x.value x.spelled where
    go : (a : Option A) → Perhaps (Spells heads (room n) (below n) f) near (starts heads f) ts a x.uses rest → ((ts ≡ rest) × (IsTrue near → next_is (starts heads f) ts ≡ false)) ⊎ Is n f ts rest
    go None d = inl (d.0.tokens, d.1)
    go (Some a) d = inr (record { value = a; uses = x.uses; spelled = d })

-- Which signs a phrase has: some marks, words, and others or not.

abbrev pub is_of : (others : Bool) → (Mark → Bool) → Sign → Bool
is_of others p (token.Mark m) = p m
is_of others p (token.Word x w) = true
is_of others p s = others

abbrev pub AllOf : (others : Bool) → (Mark → Bool) → List Sign → Type 0
AllOf others p ms = AllByRecursion (λ s. is_of others p s ≡ true) ms

pub record Front (others : Bool) (p : Mark → Bool) (ts rest : List Sign) : Type 0 where
  pub signs : List Sign
  pub split : ts ≡ signs ++ rest
  pub all : AllOf others p signs

abbrev pub has_only : {A : Type 0} → (others : Bool) → (Mark → Bool) → (Sort → Bool) → Phrase A → Bool
has_only others p q (sign m) = p m
has_only others p q (word r) = true
has_only others p q number = others
has_only others p q nought = others
has_only others p q find_word = others
has_only others p q (unnamed r) = others
has_only others p q (note r) = true
has_only others p q (both f g) = has_only others p q f && has_only others p q g
has_only others p q (may near f) = has_only others p q f
has_only others p q (many near f) = has_only others p q f
has_only others p q (either f g) = has_only others p q f && has_only others p q g
has_only others p q (made v f) = has_only others p q f
has_only others p q (level f) = has_only others p q f
has_only others p q (deeper s) = q s
has_only others p q f = false

module _ (others : Bool) (p : Mark → Bool) where
  no_front : {ts rest : List Sign} → ts ≡ rest → Front others p ts rest
  no_front e = record { signs = []; split = e; all = tt }

  pub one_front : {ts rest : List Sign} (s : Sign) → is_of others p s ≡ true → ts ≡ s ∷ rest → Front others p ts rest
  one_front s h e = record { signs = s ∷ []; split = e; all = (h, tt) }

  all_front : (ms ns : List Sign) → AllOf others p ms → AllOf others p ns → AllOf others p (ms ++ ns)
  all_front [] ns a b = b
  all_front (m ∷ ms) ns (x, a) b = (x, all_front ms ns a b)

  pub then_front : {ts mid rest : List Sign} → Front others p ts mid → Front others p mid rest → Front others p ts rest
  then_front {rest = rest} a b = record {
    signs = a.signs ++ b.signs;
    split = a.split ∙ ap (λ l. a.signs ++ l) b.split ∙ sym (append_assoc a.signs b.signs rest);
    all = all_front a.signs b.signs a.all b.all;
  }

  module _ (n : ℕ) (q : Sort → Bool) (low : (s : Sort) → q s ≡ true → (ts : List Sign) (t : Tree) (us : List (Use Role)) (rest : List Sign) → below n s ts t us rest → Front others p ts rest) where
    perhaps_front : {A : Type 0} (S : Relation Role A) (near : Bool) (k : Kind → Bool) → ((ts : List Sign) (a : A) (us : List (Use Role)) (rest : List Sign) → S ts a us rest → Front others p ts rest) →
        (ts : List Sign) (a : Option A) (us : List (Use Role)) (rest : List Sign) → Perhaps S near k ts a us rest → Front others p ts rest
    perhaps_front S near k h ts None us rest d = no_front d.0.tokens
    perhaps_front S near k h ts (Some a) us rest d = h ts a us rest d

    each_front : {A : Type 0} (S : Relation Role A) (near : Bool) (k : Kind → Bool) → ((ts : List Sign) (a : A) (us : List (Use Role)) (rest : List Sign) → S ts a us rest → Front others p ts rest) →
        (ts : List Sign) (a : List A) (us : List (Use Role)) (rest : List Sign) → Each S near k ts a us rest → Front others p ts rest
    each_front S near k h ts [] us rest d = no_front d.0.tokens
    each_front S near k h ts (a ∷ l) us rest d = then_front (h ts a d.front d.mid d.first) (each_front S near k h d.mid l d.back rest d.second)

    pub front_of : {A : Type 0} (f : Phrase A) → has_only others p q f ≡ true → (ts : List Sign) (a : A) (us : List (Use Role)) (rest : List Sign) → Spells heads (room n) (below n) f ts a us rest → Front others p ts rest
    front_of (sign m) e ts a us rest d = one_front (token.Mark m) e d.tokens
    front_of (script_word w) e ts a us rest d = absurd (cc)
    front_of (word r) e ts a us rest d = one_front (token.Word a d.script) refl d.tokens
    front_of number e ts a us rest d = one_front (token.Number a) e d.tokens
    front_of nought e ts a us rest d = one_front (token.Number 0) e d.tokens
    front_of find_word e ts a us rest d = one_front (token.Find a) e d.tokens
    front_of (unnamed r) e ts a us rest d = one_front (token.Unnamed a) e d.tokens
    front_of other e ts a us rest d = absurd (cc)
    front_of (note r) e ts a us rest d = no_front d.1.tokens
    front_of (both f g) e ts a us rest d =
        let w = and_parts (has_only others p q f) (has_only others p q g) e in
        then_front (front_of f w.0 ts a.0 d.front d.mid d.first) (front_of g w.1 d.mid a.1 d.back rest d.second)
    front_of (may near f) e ts a us rest d = perhaps_front (Spells heads (room n) (below n) f) near (starts heads f) (front_of f e) ts a us rest d
    front_of (many near f) e ts a us rest d = each_front (Spells heads (room n) (below n) f) near (starts heads f) (front_of f e) ts a us rest d
    front_of (either f g) e ts a us rest d =
        let w = and_parts (has_only others p q f) (has_only others p q g) e in
        elim d as (λ _. Front others p ts rest) [
          | inl i ↦ front_of f w.0 ts a us rest i
          | inr i ↦ front_of g w.1 ts a us rest i.1
        ]
    front_of (made v f) e ts a us rest d = front_of f e ts d.0 us rest d.1
    front_of (level f) e ts a us rest d = front_of f e ts a us rest d.1
    front_of (deeper s) e ts a us rest d = low s e ts a us rest d
