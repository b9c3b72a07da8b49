-- What a phrase says: its value, with the uses of names from its beginning and from its end on.
use Rattle.std.proofs.Common.{◌≡◌, ◌⊎◌, ℕ, zero, suc, Bool, true, false, List, [], ◌∷◌, ◌++◌, append_assoc, Option, Some, None, inl, inr, ap, sym, ◌∙◌, subst}
use Rattle.cv_syntax_trees.specs.Tree.{Tree}
use Rattle.cv_parse_notation.specs.declared.sign.Mark.{Mark}
use Rattle.cv_parse_notation.specs.declared.sign.Sign.{Sign}
use Rattle.cv_parse_notation.specs.Form.{sign, script_word, word, number, nought, find_word, unnamed, other, note, both, may, many, either, made, level, deeper, ◌▸◌, ◌◂◌}
use Rattle.cv_parse_notation.specs.Spells.{Each, IsSort, Kind, Perhaps, Relation, Spells, no_sort, starts}
use Rattle.cv_parse_notation.specs.Whole.{SpellsWith}
use Rattle.cv_parse_grammar.specs.declared.role.Role.{Role}
use Rattle.cv_parse_grammar.specs.Names.{Uses}
use Rattle.cv_parse_grammar.specs.Phrases.{Phrase, Sort, bracket, row, square}
use Rattle.cv_parse_grammar.specs.Rules.{heads, rule}

-- a value, with the uses from it on and behind it
abbrev pub Run : Type 0 → Type 1
Run A = A → Uses → Uses → Type 0

-- one use of a name
abbrev pub Word : Role → Run ℕ
Word r x us vs = (left : ℕ) × (us ≡ record { role = r; name = x; left = left } ∷ vs)

abbrev pub Optional : {A : Type 0} → Run A → Run (Option A)
Optional Q None us vs = us ≡ vs
Optional Q (Some a) us vs = Q a us vs

abbrev pub InTurn : {A : Type 0} → Run A → Run (List A)
InTurn Q [] us vs = us ≡ vs
InTurn Q (a ∷ l) us vs = (ws : Uses) × Q a us ws × InTurn Q l ws vs

-- one behind the other
abbrev pub Then : {A B : Type 0} → Run A → Run B → Run (A × B)
Then P Q x us vs = (ws : Uses) × P x.0 us ws × Q x.1 ws vs

-- what a phrase of the form says, where P is what the sorts one level down say
abbrev pub Says : {A : Type 0} → (Sort → Run Tree) → Phrase A → Run A
Says P (word r) a us vs = Word r a us vs
Says P (unnamed r) a us vs = Word r a us vs
Says P (note r) a us vs = Word r 0 us vs
Says P (both f g) a us vs = (ws : Uses) × Says P f a.0 us ws × Says P g a.1 ws vs
Says P (may near f) a us vs = Optional (Says P f) a us vs
Says P (many near f) a us vs = InTurn (Says P f) a us vs
Says P (either f g) a us vs = Says P f a us vs ⊎ Says P g a us vs
Says P (made {A = A} v f) b us vs = (a : A) × Says P f a us vs × (v a ≡ b)
Says P (level f) a us vs = Says P f a us vs
Says P (deeper s) a us vs = P s a us vs
Says P _ a us vs = us ≡ vs

-- what is spelled in front of other uses
abbrev pub Tells : {A : Type 0} → Relation Role A → Run A → Type 0
Tells {A} S Q = (ts : List Sign) (a : A) (us : Uses) (rest : List Sign) → S ts a us rest → (vs : Uses) → Q a (us ++ vs) vs

joined : (us front back vs : Uses) → us ≡ front ++ back → front ++ (back ++ vs) ≡ us ++ vs
joined us front back vs e = sym (append_assoc front back vs) ∙ ap (λ l. l ++ vs) (sym e)

perhaps_tells : {A : Type 0} (S : Relation Role A) (Q : Run A) (near : Bool) (k : Kind → Bool) → Tells S Q → Tells (Perhaps S near k) (Optional Q)
perhaps_tells S Q near k q ts None us rest d vs = ap (λ l. l ++ vs) d.0.uses
perhaps_tells S Q near k q ts (Some a) us rest d vs = q ts a us rest d vs

each_tells : {A : Type 0} (S : Relation Role A) (Q : Run A) (near : Bool) (k : Kind → Bool) → Tells S Q → Tells (Each S near k) (InTurn Q)
each_tells S Q near k q ts [] us rest d vs = ap (λ l. l ++ vs) d.0.uses
each_tells S Q near k q ts (a ∷ l) us rest d vs = (d.back ++ vs, subst (λ z. Q a z (d.back ++ vs)) (joined us d.front d.back vs d.uses) (q ts a d.front d.mid d.first (d.back ++ vs)), each_tells S Q near k q d.mid l d.back rest d.second vs)

module _ (P : Sort → Run Tree) where
  module _ (room : Bool) (below : Sort → Relation Role Tree) (low : (s : Sort) → Tells (below s) (P s)) where
    spelled : {A : Type 0} (f : Phrase A) → Tells (Spells heads room below f) (Says P f)
    spelled (sign m) ts a us rest d vs = ap (λ l. l ++ vs) d.uses
    spelled (script_word w) ts a us rest d vs = ap (λ l. l ++ vs) d.uses
    spelled (word r) ts a us rest d vs = (_, ap (λ l. l ++ vs) d.uses)
    spelled number ts a us rest d vs = ap (λ l. l ++ vs) d.uses
    spelled nought ts a us rest d vs = ap (λ l. l ++ vs) d.uses
    spelled find_word ts a us rest d vs = ap (λ l. l ++ vs) d.uses
    spelled (unnamed r) ts a us rest d vs = (_, ap (λ l. l ++ vs) d.uses)
    spelled other ts a us rest d vs = ap (λ l. l ++ vs) d.2.uses
    spelled (note r) ts a us rest d vs = (_, ap (λ l. l ++ vs) d.1.uses)
    spelled (both f g) ts a us rest d vs = (d.back ++ vs, subst (λ z. Says P f a.0 z (d.back ++ vs)) (joined us d.front d.back vs d.uses) (spelled f ts a.0 d.front d.mid d.first (d.back ++ vs)), spelled g d.mid a.1 d.back rest d.second vs)
    spelled (may near f) ts a us rest d vs = perhaps_tells (Spells heads room below f) (Says P f) near (starts heads f) (spelled f) ts a us rest d vs
    spelled (many near f) ts a us rest d vs = each_tells (Spells heads room below f) (Says P f) near (starts heads f) (spelled f) ts a us rest d vs
    spelled (either f g) ts a us rest d vs = elim d as (λ _. Says P (either f g) a (us ++ vs) vs) [
      | inl e ↦ inl (spelled f ts a us rest e vs)
      | inr e ↦ inr (spelled g ts a us rest e.1 vs)
    ]
    spelled (made v f) ts b us rest d vs = (d.0, spelled f ts d.0 us rest d.1 vs, d.2)
    spelled (level f) ts a us rest d vs = spelled f ts a us rest d.1 vs
    spelled (deeper s) ts a us rest d vs = low s ts a us rest d vs

  module _ (rows : (s : Sort) (t : Tree) (us vs : Uses) → Says P (rule s) t us vs → P s t us vs) where
    -- what each row makes of what is said one level down, holds of all that is spelled
    pub sorts_tell : (n : ℕ) (s : Sort) → Tells (IsSort heads rule n s) (P s)
    unfolding IsSort
    sorts_tell zero s ts t us rest d vs = rows s t (us ++ vs) vs (spelled false no_sort (λ s ts t us rest e. absurd e) (rule s) ts t us rest d vs)
    sorts_tell (suc n) s ts t us rest d vs = rows s t (us ++ vs) vs (spelled true (IsSort heads rule n) (sorts_tell n) (rule s) ts t us rest d vs)

    pub forms_tell : {A : Type 0} (f : Phrase A) (n : ℕ) → Tells (SpellsWith heads rule f n) (Says P f)
    forms_tell f n ts a us rest d vs = spelled true (IsSort heads rule n) (sorts_tell n) f ts a us rest d vs

in_turn : {A : Type 0} (p q : Run A) → ((a : A) (us vs : Uses) → p a us vs → q a us vs) → (l : List A) (us vs : Uses) → InTurn p l us vs → InTurn q l us vs
in_turn p q i [] us vs y = y
in_turn p q i (a ∷ l) us vs y = (y.0, i a us y.0 y.1, in_turn p q i l y.0 vs y.2)

if_there : {A : Type 0} (p q : Run A) → ((a : A) (us vs : Uses) → p a us vs → q a us vs) → (o : Option A) (us vs : Uses) → Optional p o us vs → Optional q o us vs
if_there p q i None us vs y = y
if_there p q i (Some a) us vs y = i a us vs y

-- what is said by sorts that say more
pub says_less : (P Q : Sort → Run Tree) → ((s : Sort) (t : Tree) (us vs : Uses) → P s t us vs → Q s t us vs) → {A : Type 0} (f : Phrase A) (a : A) (us vs : Uses) → Says P f a us vs → Says Q f a us vs
says_less P Q i (word r) a us vs y = y
says_less P Q i (unnamed r) a us vs y = y
says_less P Q i (note r) a us vs y = y
says_less P Q i (both f g) a us vs y = (y.0, says_less P Q i f a.0 us y.0 y.1, says_less P Q i g a.1 y.0 vs y.2)
says_less P Q i (may near f) a us vs y = if_there (Says P f) (Says Q f) (says_less P Q i f) a us vs y
says_less P Q i (many near f) a us vs y = in_turn (Says P f) (Says Q f) (says_less P Q i f) a us vs y
says_less P Q i (either f g) a us vs y = elim y as (λ _. Says Q (either f g) a us vs) [
  | inl e ↦ inl (says_less P Q i f a us vs e)
  | inr e ↦ inr (says_less P Q i g a us vs e)
]
says_less P Q i (made v f) a us vs y = (y.0, says_less P Q i f y.0 us vs y.1, y.2)
says_less P Q i (level f) a us vs y = says_less P Q i f a us vs y
says_less P Q i (deeper s) a us vs y = i s a us vs y
says_less P Q i _ a us vs y = y

-- what is said by a phrase comes to this
pub record Makes {A : Type 0} (P : Sort → Run Tree) (f : Phrase A) (Q : Run A) : Type 0 where
  pub gives : (a : A) (us vs : Uses) → Says P f a us vs → Q a us vs

pub made_of_less : {A : Type 0} {P Q : Sort → Run Tree} {f : Phrase A} {R : Run A} → ((s : Sort) (t : Tree) (us vs : Uses) → P s t us vs → Q s t us vs) → Makes Q f R → Makes P f R
made_of_less {P = P} {Q = Q} {f = f} i m = record { gives = λ a us vs y. m.gives a us vs (says_less P Q i f a us vs y) }

module _ {P : Sort → Run Tree} where
  pub a_word : {r : Role} → Makes P (word r) (Word r)
  a_word = record { gives = λ a us vs y. y }

  pub a_note : {r : Role} → Makes P (note r) (λ _. Word r 0)
  a_note = record { gives = λ a us vs y. y }

  pub below : {s : Sort} → Makes P (deeper s) (P s)
  below = record { gives = λ a us vs y. y }

  pub follow : {A B : Type 0} {f : Phrase A} {g : Phrase B} {p : Run A} {q : Run B} → Makes P f p → Makes P g q → Makes P (both f g) (Then p q)
  follow i j = record { gives = λ a us vs y. (y.0, i.gives a.0 us y.0 y.1, j.gives a.1 y.0 vs y.2) }

  pub weaker : {A : Type 0} {f : Phrase A} {p q : Run A} → Makes P f p → ((a : A) (us vs : Uses) → p a us vs → q a us vs) → Makes P f q
  weaker i k = record { gives = λ a us vs y. k a us vs (i.gives a us vs y) }

  pub turned : {A B : Type 0} {v : A → B} {f : Phrase A} {p : Run A} {q : Run B} → Makes P f p → ((a : A) (us vs : Uses) → p a us vs → q (v a) us vs) → Makes P (made v f) q
  turned {q = q} i k = record { gives = λ b us vs y. subst (λ z. q z us vs) y.2 (k y.0 us vs (i.gives y.0 us vs y.1)) }

  pub perhaps : {A : Type 0} {near : Bool} {f : Phrase A} {p : Run A} → Makes P f p → Makes P (may near f) (Optional p)
  perhaps {f = f} {p = p} i = record { gives = if_there (Says P f) p i.gives }

  pub several : {A : Type 0} {near : Bool} {f : Phrase A} {p : Run A} → Makes P f p → Makes P (many near f) (InTurn p)
  several {f = f} {p = p} i = record { gives = in_turn (Says P f) p i.gives }

  pub one_of : {A : Type 0} {f g : Phrase A} {p : Run A} → Makes P f p → Makes P g p → Makes P (either f g) p
  one_of {p = p} i j = record { gives = λ a us vs y. elim y as (λ _. p a us vs) [ inl e ↦ i.gives a us vs e | inr e ↦ j.gives a us vs e ] }

  pub leveled : {A : Type 0} {f : Phrase A} {p : Run A} → Makes P f p → Makes P (level f) p
  leveled i = record { gives = i.gives }

  -- a symbol says nothing
  pub behind : {A : Type 0} {m : Mark} {f : Phrase A} {p : Run A} → Makes P f p → Makes P (m ▸ f) p
  behind {p = p} i = record { gives = λ b us vs y. subst (λ z. p z us vs) y.2 (subst (λ z. p y.0.1 z vs) (sym y.1.1) (i.gives y.0.1 y.1.0 vs y.1.2)) }

  pub before : {A : Type 0} {m : Mark} {f : Phrase A} {p : Run A} → Makes P f p → Makes P (f ◂ m) p
  before {p = p} i = record { gives = λ b us vs y. subst (λ z. p z us vs) y.2 (subst (λ z. p y.0.0 us z) y.1.2 (i.gives y.0.0 us y.1.0 y.1.1)) }

  pub bracketed : {A : Type 0} {f : Phrase A} {p : Run A} → Makes P f p → Makes P (bracket f) p
  bracketed i = leveled (behind (before i))

  pub squared : {A : Type 0} {f : Phrase A} {p : Run A} → Makes P f p → Makes P (square f) p
  squared i = leveled (behind (before i))

  -- one and further ones are a list
  pub in_row : {A : Type 0} {m : Mark} {f : Phrase A} {p : Run A} → Makes P f p → Makes P (row m f) (InTurn p)
  in_row i = turned (follow i (several (behind i))) (λ x us vs w. w)
