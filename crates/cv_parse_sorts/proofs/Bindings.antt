-- What is spelled has each variable that its uses of names bind.
use Rattle.std.proofs.Common.{◌≡◌, ℕ, Bool, true, false, ◌==◌, ◌&&◌, ◌||◌, List, [], ◌∷◌, ◌++◌, ◌⊎◌, Option, Some, None, inl, inr, refl, ap, sym, subst, ◌∙◌, eqb-true}
use Rattle.std.proofs.lemmas.Bool.{both_ways, or_cases}
use Rattle.std.proofs.lemmas.List.Folds.{list_any-append}
use Rattle.cv_syntax_trees.specs.Tree.{Tree}
use Rattle.cv_parse_notation.specs.declared.sign.Mark.{Mark}
use Rattle.cv_parse_notation.specs.declared.sign.Sign.{Sign}
use Rattle.cv_parse_notation.specs.Form.{both, may, many, either, made, level, word, ◌▸◌, ◌◂◌}
use Rattle.cv_parse_notation.specs.Spells.{Each, Kind, Perhaps, Relation, Spells, starts}
use Rattle.cv_parse_grammar.specs.declared.role.Role.{Role}
use Rattle.cv_parse_grammar.specs.declared.role.Role.TheVariants.{BindsVariable}
use Rattle.cv_parse_grammar.specs.Names.{Uses, binds_variable, is_used}
use Rattle.cv_parse_grammar.specs.Phrases.{Phrase, Sort, or_else, row, bracket}
use Rattle.cv_parse_grammar.specs.Rules.{heads}

-- one of the uses binds the variable
abbrev pub IsBound : ℕ → Uses → Type 0
IsBound x us = is_used binds_variable x us ≡ true

pub bound_parts : (x : ℕ) (us front back : Uses) → us ≡ front ++ back → IsBound x us → IsBound x front ⊎ IsBound x back
bound_parts x us front back e k = or_cases (is_used binds_variable x front) (is_used binds_variable x back) (sym (ap (is_used binds_variable x) e ∙ list_any-append (λ u. binds_variable u.role && (u.name == x)) front back) ∙ k)

pub none_bound : (x : ℕ) (us : Uses) → us ≡ [] → IsBound x us → ⊥
none_bound x us e k = both_ways _ (ap (is_used binds_variable x) e) k

abbrev pub Finds : {A : Type 0} → Relation Role A → (A → ℕ → Type 0) → Type 0
Finds {A} S D = (ts : List Sign) (a : A) (us : Uses) (rest : List Sign) → S ts a us rest → (x : ℕ) → IsBound x us → D a x

-- what is there has the variable
abbrev pub IfThere : {A : Type 0} → (A → ℕ → Type 0) → Option A → ℕ → Type 0
IfThere D None x = ⊥
IfThere D (Some a) x = D a x

-- one of a list has it
abbrev pub SomeHas : {A : Type 0} → (A → ℕ → Type 0) → List A → ℕ → Type 0
SomeHas D [] x = ⊥
SomeHas D (a ∷ l) x = D a x ⊎ SomeHas D l x

perhaps_finds : {A : Type 0} (S : Relation Role A) (D : A → ℕ → Type 0) (near : Bool) (k : Kind → Bool) → Finds S D → Finds (Perhaps S near k) (IfThere D)
perhaps_finds S D near k i ts None us rest d x e = absurd (none_bound x us d.0.uses e)
perhaps_finds S D near k i ts (Some a) us rest d x e = i ts a us rest d x e

each_finds : {A : Type 0} (S : Relation Role A) (D : A → ℕ → Type 0) (near : Bool) (k : Kind → Bool) → Finds S D → Finds (Each S near k) (SomeHas D)
each_finds S D near k i ts [] us rest d x e = absurd (none_bound x us d.0.uses e)
each_finds S D near k i ts (a ∷ l) us rest d x e =
    elim (bound_parts x us d.front d.back d.uses e) as (λ _. D a x ⊎ SomeHas D l x) [
      | inl m ↦ inl (i ts a d.front d.mid d.first x m)
      | inr m ↦ inr (each_finds S D near k i d.mid l d.back rest d.second x m)
    ]

-- the values of a phrase have the variables that are bound in it
pub record Has {A : Type 0} (room : Bool) (below : Sort → Relation Role Tree) (f : Phrase A) (D : A → ℕ → Type 0) : Type 0 where
  pub finds : (ts : List Sign) (a : A) (us : Uses) (rest : List Sign) → Spells heads room below f ts a us rest → (x : ℕ) → IsBound x us → D a x

-- nothing is bound
abbrev pub Nowhere : {A : Type 0} → A → ℕ → Type 0
Nowhere a x = ⊥

or_else_has : {A : Type 0} (D : A → ℕ → Type 0) (a : A) (o : Option A) (x : ℕ) → IfThere D o x → D (or_else a o) x
or_else_has D a None x w = absurd w
or_else_has D a (Some b) x w = w

the_name : (y x : ℕ) → ((y == x) || false) ≡ true → y ≡ x
the_name y x e = elim (or_cases (y == x) false e) as (λ _. y ≡ x) [ inl k ↦ eqb-true y x k | inr k ↦ absurd (both_ways false refl k) ]

second_alone : {A : Type 0} (E : A → Type 0) (a : A) → ⊥ ⊎ E a → E a
second_alone E a (inl k) = absurd k
second_alone E a (inr k) = k

first_alone : {A : Type 0} (D : A → Type 0) (a : A) → D a ⊎ ⊥ → D a
first_alone D a (inl k) = k
first_alone D a (inr k) = absurd k

module _ {room : Bool} {below : Sort → Relation Role Tree} where
  pub a_variable_word : Has room below (word BindsVariable) (λ y x. y ≡ x)
  a_variable_word = record { finds = λ ts y us rest d x e. the_name y x (sym (ap (is_used binds_variable x) d.uses) ∙ e) }

  pub follow : {A B : Type 0} {f : Phrase A} {g : Phrase B} {D : A → ℕ → Type 0} {E : B → ℕ → Type 0} → Has room below f D → Has room below g E → Has room below (both f g) (λ p x. D p.0 x ⊎ E p.1 x)
  follow {D = D} {E = E} i j = record {
    finds = λ ts a us rest d x e. elim (bound_parts x us d.front d.back d.uses e) as (λ _. D a.0 x ⊎ E a.1 x) [
      | inl k ↦ inl (i.finds ts a.0 d.front d.mid d.first x k)
      | inr k ↦ inr (j.finds d.mid a.1 d.back rest d.second x k)
    ];
  }

  pub turned : {A B : Type 0} {v : A → B} {f : Phrase A} {D : A → ℕ → Type 0} {E : B → ℕ → Type 0} → Has room below f D → ((a : A) (x : ℕ) → D a x → E (v a) x) → Has room below (made v f) E
  turned {E = E} i k = record { finds = λ ts b us rest d x e. subst (λ c. E c x) d.2 (k d.0 x (i.finds ts d.0 us rest d.1 x e)) }

  pub weaker : {A : Type 0} {f : Phrase A} {D E : A → ℕ → Type 0} → Has room below f D → ((a : A) (x : ℕ) → D a x → E a x) → Has room below f E
  weaker i k = record { finds = λ ts a us rest d x e. k a x (i.finds ts a us rest d x e) }

  -- the second part alone binds some, or the first alone

  pub at_second : {A B : Type 0} {f : Phrase A} {g : Phrase B} {E : B → ℕ → Type 0} → Has room below f Nowhere → Has room below g E → Has room below (both f g) (λ p x. E p.1 x)
  at_second {E = E} i j = weaker (follow i j) (λ p x w. second_alone (λ b. E b x) p.1 w)

  pub at_first : {A B : Type 0} {f : Phrase A} {g : Phrase B} {D : A → ℕ → Type 0} → Has room below f D → Has room below g Nowhere → Has room below (both f g) (λ p x. D p.0 x)
  at_first {D = D} i j = weaker (follow i j) (λ p x w. first_alone (λ a. D a x) p.0 w)

  pub perhaps : {A : Type 0} {near : Bool} {f : Phrase A} {D : A → ℕ → Type 0} → Has room below f D → Has room below (may near f) (IfThere D)
  perhaps {near = near} {f = f} {D = D} i = record { finds = perhaps_finds (Spells heads room below f) D near (starts heads f) i.finds }

  pub several : {A : Type 0} {near : Bool} {f : Phrase A} {D : A → ℕ → Type 0} → Has room below f D → Has room below (many near f) (SomeHas D)
  several {near = near} {f = f} {D = D} i = record { finds = each_finds (Spells heads room below f) D near (starts heads f) i.finds }

  pub one_of : {A : Type 0} {f g : Phrase A} {D : A → ℕ → Type 0} → Has room below f D → Has room below g D → Has room below (either f g) D
  one_of {D = D} i j = record { finds = λ ts a us rest d x e. elim d as (λ _. D a x) [ inl k ↦ i.finds ts a us rest k x e | inr k ↦ j.finds ts a us rest k.1 x e ] }

  pub leveled : {A : Type 0} {f : Phrase A} {D : A → ℕ → Type 0} → Has room below f D → Has room below (level f) D
  leveled i = record { finds = λ ts a us rest d x e. i.finds ts a us rest d.1 x e }

  -- a symbol binds nothing
  pub behind : {A : Type 0} {m : Mark} {f : Phrase A} {D : A → ℕ → Type 0} → Has room below f D → Has room below (m ▸ f) D
  behind {D = D} i = record {
    finds = λ ts a us rest d x e. let k = d.1 in subst (λ c. D c x) d.2 (elim (bound_parts x us k.front k.back k.uses e) as (λ _. D d.0.1 x) [
      | inl n ↦ absurd (none_bound x k.front k.first.uses n)
      | inr n ↦ i.finds k.mid d.0.1 k.back rest k.second x n
    ]);
  }

  pub before : {A : Type 0} {m : Mark} {f : Phrase A} {D : A → ℕ → Type 0} → Has room below f D → Has room below (f ◂ m) D
  before {D = D} i = record {
    finds = λ ts a us rest d x e. let k = d.1 in subst (λ c. D c x) d.2 (elim (bound_parts x us k.front k.back k.uses e) as (λ _. D d.0.0 x) [
      | inl n ↦ i.finds ts d.0.0 k.front k.mid k.first x n
      | inr n ↦ absurd (none_bound x k.back k.second.uses n)
    ]);
  }

  pub in_row : {A : Type 0} {m : Mark} {f : Phrase A} {D : A → ℕ → Type 0} → Has room below f D → Has room below (row m f) (SomeHas D)
  in_row i = turned (follow i (several (behind i))) (λ p x w. w)

  pub bracketed : {A : Type 0} {f : Phrase A} {D : A → ℕ → Type 0} → Has room below f D → Has room below (bracket f) D
  bracketed i = leveled (behind (before i))

  pub or_this : {A : Type 0} {near : Bool} {f : Phrase A} {D : A → ℕ → Type 0} (a : A) → Has room below f D → Has room below (made (or_else a) (may near f)) D
  or_this {D = D} a i = turned (perhaps i) (or_else_has D a)
