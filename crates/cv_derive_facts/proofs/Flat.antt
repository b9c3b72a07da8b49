-- Phrases of the grammar that hold no process: terms, cells and lists. Above no place of theirs does anything more stand.
use Rattle.std.proofs.Common.{◌≡◌, ℕ, Bool, true, false, [], Option, Some, None, refl, sym, ap, subst}
use Rattle.std.proofs.lemmas.Bool.{both_ways}
use Rattle.cv_syntax_trees.specs.declared.head.Head.{Head}
use Rattle.cv_syntax_trees.specs.declared.head.Head.TheVariants.{Par, Find, Branch, Leaf, Read, Apply, Eq, And, Or, Not, Yes, No, Cons, Binder, Name}
use Rattle.cv_syntax_trees.specs.Tree.{Tree}
use Rattle.cv_scope_rules.specs.Context.{Context}
use Rattle.cv_scope_rules.specs.Phrases.{Phrase, Nil, Inputs, Body, Then, Else, Branches, Arm, Guards, Guarded, Pattern, Message, Indices, Binders, Cells, OneCell, Terms, Term, oracle_parts}
use Rattle.cv_scope_runs.proofs.Rows.{Row, stop, par, repl, input, yield, output, restriction, definition, key, call, event, test, bodies, last_body, find, branches, branch, guards, guarded, position_of, row, walks}
use Rattle.cv_path.specs.Copies.{added}
use Rattle.cv_derive_facts.specs.Definitions.{can_define}
use Rattle.cv_scope_rules.specs.Above.{first_standing, second_standing}
use Rattle.cv_syntax_trees.proofs.lists.Options.{none_some}

pub Some_injective : {A : Type 0} (a b : A) → ◌≡◌ {A = Option A} (Some a) (Some b) → a ≡ b
Some_injective a b e = cc

-- the children are flat too, and nothing more stands above their places, or is multiplied there
pub record Flat (σ τ ρ : Phrase) (h : Head) : Type 0 where
  pub first : walks τ ≡ false
  pub second : walks ρ ≡ false
  pub added : (a b : Tree) (p : ℕ) → added h a b p ≡ []
  pub stands_first : (Γ : Context) → first_standing (position_of σ) h Γ ≡ Γ
  pub stands_second : (a : Tree) (Γ : Context) → second_standing (position_of σ) h a Γ ≡ Γ
  pub defines : can_define h ≡ false

abbrev IsFlat : Phrase → Head → Option (Phrase × Phrase) → Type 0
IsFlat σ h None = Unit {0}
IsFlat σ h (Some q) = walks σ ≡ false → Flat σ q.0 q.1 h

walked : (σ : Phrase) (h : Head) (o : Option (Phrase × Phrase)) → walks σ ≡ true → IsFlat σ h o
walked σ h None w = tt
walked σ h (Some q) w = λ f. absurd (both_ways (walks σ) f w)

all_flat : (σ : Phrase) (h : Head) → IsFlat σ h (oracle_parts σ h)
all_flat Inputs h = walked Inputs h (oracle_parts Inputs h) refl
all_flat Body h = walked Body h (oracle_parts Body h) refl
all_flat Then h = walked Then h (oracle_parts Then h) refl
all_flat Else h = walked Else h (oracle_parts Else h) refl
all_flat Branches h = walked Branches h (oracle_parts Branches h) refl
all_flat Arm h = walked Arm h (oracle_parts Arm h) refl
all_flat Guards h = walked Guards h (oracle_parts Guards h) refl
all_flat Guarded h = walked Guarded h (oracle_parts Guarded h) refl
all_flat Pattern Cons = λ w. record { first = refl; second = refl; added = λ a b p. refl; stands_first = λ Γ. refl; stands_second = λ a Γ. refl; defines = refl }
all_flat Message Cons = λ w. record { first = refl; second = refl; added = λ a b p. refl; stands_first = λ Γ. refl; stands_second = λ a Γ. refl; defines = refl }
all_flat Indices (Name i) = λ w. record { first = refl; second = refl; added = λ a b p. refl; stands_first = λ Γ. refl; stands_second = λ a Γ. refl; defines = refl }
all_flat Binders (Binder x T) = λ w. record { first = refl; second = refl; added = λ a b p. refl; stands_first = λ Γ. refl; stands_second = λ a Γ. refl; defines = refl }
all_flat Cells Cons = λ w. record { first = refl; second = refl; added = λ a b p. refl; stands_first = λ Γ. refl; stands_second = λ a Γ. refl; defines = refl }
all_flat OneCell (Leaf x) = λ w. record { first = refl; second = refl; added = λ a b p. refl; stands_first = λ Γ. refl; stands_second = λ a Γ. refl; defines = refl }
all_flat OneCell (Read x) = λ w. record { first = refl; second = refl; added = λ a b p. refl; stands_first = λ Γ. refl; stands_second = λ a Γ. refl; defines = refl }
all_flat Terms Cons = λ w. record { first = refl; second = refl; added = λ a b p. refl; stands_first = λ Γ. refl; stands_second = λ a Γ. refl; defines = refl }
all_flat Term (Leaf x) = λ w. record { first = refl; second = refl; added = λ a b p. refl; stands_first = λ Γ. refl; stands_second = λ a Γ. refl; defines = refl }
all_flat Term (Read x) = λ w. record { first = refl; second = refl; added = λ a b p. refl; stands_first = λ Γ. refl; stands_second = λ a Γ. refl; defines = refl }
all_flat Term (Apply f) = λ w. record { first = refl; second = refl; added = λ a b p. refl; stands_first = λ Γ. refl; stands_second = λ a Γ. refl; defines = refl }
all_flat Term Eq = λ w. record { first = refl; second = refl; added = λ a b p. refl; stands_first = λ Γ. refl; stands_second = λ a Γ. refl; defines = refl }
all_flat Term And = λ w. record { first = refl; second = refl; added = λ a b p. refl; stands_first = λ Γ. refl; stands_second = λ a Γ. refl; defines = refl }
all_flat Term Or = λ w. record { first = refl; second = refl; added = λ a b p. refl; stands_first = λ Γ. refl; stands_second = λ a Γ. refl; defines = refl }
all_flat Term Not = λ w. record { first = refl; second = refl; added = λ a b p. refl; stands_first = λ Γ. refl; stands_second = λ a Γ. refl; defines = refl }
all_flat Term Yes = λ w. record { first = refl; second = refl; added = λ a b p. refl; stands_first = λ Γ. refl; stands_second = λ a Γ. refl; defines = refl }
all_flat Term No = λ w. record { first = refl; second = refl; added = λ a b p. refl; stands_first = λ Γ. refl; stands_second = λ a Γ. refl; defines = refl }
all_flat σ h = tt

pub flat_parts : (σ τ ρ : Phrase) (h : Head) → walks σ ≡ false → oracle_parts σ h ≡ Some (τ, ρ) → Flat σ τ ρ h
flat_parts σ τ ρ h w e = subst (IsFlat σ h) e (all_flat σ h) w

-- the children of a branch, of a `find` and of what else defines variables

pub arm_parts : (σ : Phrase) (q : Phrase × Phrase) → oracle_parts σ Branch ≡ Some q → q.1 ≡ Guards
arm_parts Arm q e = ap (λ (r : Phrase × Phrase). r.1) (sym (Some_injective (Binders, Guards) q e))
arm_parts Nil q e = absurd (none_some q e)
arm_parts σ q e = absurd (none_some q e)

pub find_parts : (σ : Phrase) (l : ℕ) (q : Phrase × Phrase) → oracle_parts σ (Find l) ≡ Some q → q.0 ≡ Branches
find_parts Body l q e = ap (λ (r : Phrase × Phrase). r.0) (sym (Some_injective (Branches, Body) q e))
find_parts Nil l q e = absurd (none_some q e)
find_parts σ l q e = absurd (none_some q e)

-- definitions but for branches
abbrev pub continues : Head → Bool
continues Branch = false
continues h = can_define h

continued_row : (σ τ ρ : Phrase) (h : Head) → Row σ h τ ρ → continues h ≡ true → ρ ≡ Body
continued_row σ τ ρ h stop c = absurd (both_ways _ refl c)
continued_row σ τ ρ h par c = absurd (both_ways _ refl c)
continued_row σ τ ρ h repl c = absurd (both_ways _ refl c)
continued_row σ τ ρ h input c = refl
continued_row σ τ ρ h yield c = absurd (both_ways _ refl c)
continued_row σ τ ρ h output c = absurd (both_ways _ refl c)
continued_row σ τ ρ h restriction c = refl
continued_row σ τ ρ h definition c = refl
continued_row σ τ ρ h key c = refl
continued_row σ τ ρ h call c = refl
continued_row σ τ ρ h event c = absurd (both_ways _ refl c)
continued_row σ τ ρ h test c = absurd (both_ways _ refl c)
continued_row σ τ ρ h bodies c = absurd (both_ways _ refl c)
continued_row σ τ ρ h last_body c = absurd (both_ways _ refl c)
continued_row σ τ ρ h find c = absurd (both_ways _ refl c)
continued_row σ τ ρ h branches c = absurd (both_ways _ refl c)
continued_row σ τ ρ h branch c = absurd (both_ways _ refl c)
continued_row σ τ ρ h guards c = absurd (both_ways _ refl c)
continued_row σ τ ρ h guarded c = absurd (both_ways _ refl c)

continues_defines : (h : Head) → continues h ≡ true → can_define h ≡ true
continues_defines Branch e = absurd (both_ways _ refl e)
continues_defines h e = e

pub continued_parts : (σ τ ρ : Phrase) (h : Head) → continues h ≡ true → oracle_parts σ h ≡ Some (τ, ρ) → ρ ≡ Body
continued_parts σ τ ρ h c e = go (walks σ) refl
  where
    go : (b : Bool) → walks σ ≡ b → ρ ≡ Body
    go true w = continued_row σ τ ρ h (row σ h τ ρ w e) c
    go false w = absurd (both_ways (can_define h) (flat_parts σ τ ρ h w e).defines (continues_defines h c))

-- the first child of a construct holds its own terms
abbrev pub has_terms : Head → Bool
has_terms Cons = false
has_terms Par = false
has_terms (Find l) = false
has_terms h = true

terms_row : (σ τ ρ : Phrase) (h : Head) → Row σ h τ ρ → has_terms h ≡ true → walks τ ≡ false
terms_row σ τ ρ h stop c = refl
terms_row σ τ ρ h par c = absurd (both_ways _ refl c)
terms_row σ τ ρ h repl c = refl
terms_row σ τ ρ h input c = refl
terms_row σ τ ρ h yield c = refl
terms_row σ τ ρ h output c = refl
terms_row σ τ ρ h restriction c = refl
terms_row σ τ ρ h definition c = refl
terms_row σ τ ρ h key c = refl
terms_row σ τ ρ h call c = refl
terms_row σ τ ρ h event c = refl
terms_row σ τ ρ h test c = refl
terms_row σ τ ρ h bodies c = absurd (both_ways _ refl c)
terms_row σ τ ρ h last_body c = absurd (both_ways _ refl c)
terms_row σ τ ρ h find c = absurd (both_ways _ refl c)
terms_row σ τ ρ h branches c = absurd (both_ways _ refl c)
terms_row σ τ ρ h branch c = refl
terms_row σ τ ρ h guards c = absurd (both_ways _ refl c)
terms_row σ τ ρ h guarded c = absurd (both_ways _ refl c)

pub terms_parts : (σ τ ρ : Phrase) (h : Head) → has_terms h ≡ true → oracle_parts σ h ≡ Some (τ, ρ) → walks τ ≡ false
terms_parts σ τ ρ h c e = go (walks σ) refl
  where
    go : (b : Bool) → walks σ ≡ b → walks τ ≡ false
    go true w = terms_row σ τ ρ h (row σ h τ ρ w e) c
    go false w = (flat_parts σ τ ρ h w e).first
