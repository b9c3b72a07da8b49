-- How many copies the keys and calls of a tree have that are of a kind; terms have none.
use Rattle.std.proofs.Common.{◌≡◌, ℕ, ◌+◌, Bool, true, false, cond, List, Option, Some, None, refl, ap₂, subst}
use Rattle.std.proofs.lemmas.Bool.{both_ways}
use Rattle.cv_syntax_trees.specs.declared.head.Head.{Head}
use Rattle.cv_syntax_trees.specs.declared.head.Head.TheVariants.{And, Apply, Binder, Call, Cons, Eq, Key, Leaf, Name, No, Not, Or, Read, Yes}
use Rattle.cv_syntax_trees.specs.Head.{weight}
use Rattle.cv_syntax_trees.specs.Tree.{Tree, Empty, Node}
use Rattle.cv_meaning.specs.Interpretation.{Interpretation}
use Rattle.cv_scope_rules.specs.Context.{replications_below}
use Rattle.cv_scope_rules.specs.Phrases.{Phrase, Inputs, Body, Then, Else, Branches, Arm, Guards, Guarded, Pattern, Message, Indices, Binders, Cells, OneCell, Terms, Term, head_is_plain, is_oracle_phrase, oracle_parts, parts}
use Rattle.cv_scene.specs.Contexts.{parameters_of}
use Rattle.cv_scene.specs.Sites.{is_guard}
use Rattle.cv_scope_runs.proofs.Rows.{position_of}
use Rattle.cv_rule_fresh.specs.collisions.Chances.{copies}
use Rattle.cv_context_laws.proofs.calls.Found.{children_of}
use Rattle.cv_context_laws.proofs.calls.Games.{no_row}

-- the kind is of keys or calls alone
abbrev pub AreAmongOracles : (Head → Bool) → Type 0
AreAmongOracles P = (h : Head) → P h ≡ true → head_is_plain h ≡ false

pub oracle_weight : (h : Head) → head_is_plain h ≡ false → weight h ≡ 1
oracle_weight (Key x) e = refl
oracle_weight (Call x l) e = refl
oracle_weight h e = absurd (both_ways _ e refl)

-- how many copies a node of the kind has below replications, and those in a tree

abbrev pub copies_at : Interpretation → (Head → Bool) → List (ℕ × ℕ) → Head → ℕ
copies_at i P rs h = cond (P h) (copies i (parameters_of rs)) 0

abbrev pub copies_in : Interpretation → (Head → Bool) → List (ℕ × ℕ) → Tree → ℕ
copies_in i P rs Empty = 0
copies_in i P rs (Node h a b) = copies_at i P rs h + (copies_in i P rs a + copies_in i P (replications_below h rs) b)

-- phrases in which no construct stands

abbrev pub is_terms : Phrase → Bool
is_terms Inputs = false
is_terms Body = false
is_terms Then = false
is_terms Else = false
is_terms Branches = false
is_terms Arm = false
is_terms Guards = false
is_terms Guarded = false
is_terms σ = true

abbrev AreTerms : Head → Option (Phrase × Phrase) → Type 0
AreTerms h None = Unit {0}
AreTerms h (Some q) = (head_is_plain h ≡ true) × (is_terms q.0 ≡ true) × (is_terms q.1 ≡ true)

terms_below : (σ : Phrase) (h : Head) → is_terms σ ≡ true → AreTerms h (oracle_parts σ h)
terms_below Inputs h e = absurd (both_ways _ refl e)
terms_below Body h e = absurd (both_ways _ refl e)
terms_below Then h e = absurd (both_ways _ refl e)
terms_below Else h e = absurd (both_ways _ refl e)
terms_below Branches h e = absurd (both_ways _ refl e)
terms_below Arm h e = absurd (both_ways _ refl e)
terms_below Guards h e = absurd (both_ways _ refl e)
terms_below Guarded h e = absurd (both_ways _ refl e)
terms_below Pattern Cons e = (refl, refl, refl)
terms_below Message Cons e = (refl, refl, refl)
terms_below Indices (Name i) e = (refl, refl, refl)
terms_below Binders (Binder x T) e = (refl, refl, refl)
terms_below Cells Cons e = (refl, refl, refl)
terms_below OneCell (Leaf x) e = (refl, refl, refl)
terms_below OneCell (Read x) e = (refl, refl, refl)
terms_below Terms Cons e = (refl, refl, refl)
terms_below Term (Leaf x) e = (refl, refl, refl)
terms_below Term (Read x) e = (refl, refl, refl)
terms_below Term (Apply f) e = (refl, refl, refl)
terms_below Term Eq e = (refl, refl, refl)
terms_below Term And e = (refl, refl, refl)
terms_below Term Or e = (refl, refl, refl)
terms_below Term Not e = (refl, refl, refl)
terms_below Term Yes e = (refl, refl, refl)
terms_below Term No e = (refl, refl, refl)
terms_below σ h e = tt

-- a node of a game is neither a key nor a call
pub plain_row : (σ : Phrase) (h : Head) (q : Phrase × Phrase) → parts σ h ≡ Some q → head_is_plain h ≡ true
plain_row Body (Key x) q e = no_row q e
plain_row Inputs (Key x) q e = no_row q e
plain_row σ (Key x) q e = no_row q e
plain_row Body (Call x l) q e = no_row q e
plain_row Inputs (Call x l) q e = no_row q e
plain_row σ (Call x l) q e = no_row q e
plain_row σ h q e = refl

-- in the first child of a list of guards no construct stands
pub guard_terms : (σ : Phrase) (h : Head) (q : Phrase × Phrase) → parts σ h ≡ Some q → is_guard (position_of σ) ≡ true → is_terms q.0 ≡ true
guard_terms Guards Cons q e g = let s : (Cells, Guarded) ≡ q = cc in subst (λ (p : Phrase × Phrase). is_terms p.0 ≡ true) s refl
guard_terms Guarded Cons q e g = let s : (Term, Body) ≡ q = cc in subst (λ (p : Phrase × Phrase). is_terms p.0 ≡ true) s refl
guard_terms Guards h q e g = no_row q e
guard_terms Guarded h q e g = no_row q e
guard_terms σ h q e g = absurd (both_ways _ refl g)

module _ (i : Interpretation) (P : Head → Bool) (among : AreAmongOracles P) where
  pub plain_none : (rs : List (ℕ × ℕ)) (h : Head) → head_is_plain h ≡ true → copies_at i P rs h ≡ 0
  plain_none rs h e = go (P h) refl
    where
      go : (b : Bool) → P h ≡ b → cond b (copies i (parameters_of rs)) 0 ≡ 0
      go true f = absurd (both_ways _ (among h f) e)
      go false f = refl

  pub terms_none : (t : Tree) (σ : Phrase) (rs : List (ℕ × ℕ)) → is_terms σ ≡ true → is_oracle_phrase σ t ≡ true → copies_in i P rs t ≡ 0
  terms_none Empty σ rs e f = refl
  terms_none (Node h a b) σ rs e f =
      let c = children_of σ h a b f in
      let k = subst (AreTerms h) c.row (terms_below σ h e) in
      ap₂ ◌+◌ (plain_none rs h k.0) (ap₂ ◌+◌ (terms_none a c.first rs k.1 c.in_first) (terms_none b c.second (replications_below h rs) k.2 c.in_second))
