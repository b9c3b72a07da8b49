-- At each read of the variable it is known which cell is read, and that it has the value of the term.
use Rattle.std.proofs.Common.{◌≡◌, ℕ, ◌<◌, ◌≤◌, ◌&&◌, Bool, true, false, [], ◌∷◌, ◌++◌, ◌⊎◌, inl, inr, Option, Some, None, refl, sym, ap, ap₂, subst, ◌∙◌, not, arith, eqb-true}
use Rattle.std.proofs.lemmas.Bool.{both_ways}
use Rattle.cv_syntax_trees.specs.declared.head.Head.{Head}
use Rattle.cv_syntax_trees.specs.declared.head.Head.TheVariants.{In, New, Let, Branch, Leaf, Read, Apply, Eq, And, Or, Not, Yes, No, Cons, Key, Call}
use Rattle.cv_syntax_trees.specs.Head.{weight}
use Rattle.cv_syntax_trees.specs.Tree.{Tree, Empty, Node, first_place, head_reads_only, reads_only, second_place}
use Rattle.cv_meaning.specs.Interpretation.{Setting}
use Rattle.cv_meaning_chances.specs.unread.Dropping.{reads_none}
use Rattle.cv_scope_rules.specs.Context.{Context, cell_of}
use Rattle.cv_scope_rules.specs.Made.{made_by}
use Rattle.cv_scope_rules.specs.Phrases.{Phrase, Nil, Inputs, Body, Terms, Term, is_phrase, oracle_parts}
use Rattle.cv_scope_rules.specs.Rules.{InReach, IsAmong}
use Rattle.cv_scope_rules.specs.Scope.{is_variable}
use Rattle.cv_scope_rules.specs.Sites.{Variable}
use Rattle.cv_scope_runs.specs.Promises.{IsDefinition, after_site}
use Rattle.cv_scope_runs.proofs.Games.{Game, has_parts, stands_phrase}
use Rattle.cv_scope_runs.proofs.Rows.{position_of}
use Rattle.cv_scope_runs.proofs.Standing.{Stands, root, in_first, in_second, first_below, second_below, stands_definition}
use Rattle.cv_scene.specs.Scenes.{head_reads, part_at}
use Rattle.cv_scene.specs.Sights.{variable_of}
use Rattle.cv_steps.specs.Changes.{only}
use Rattle.cv_steps.specs.Unletting.{Assignment, assigned_in, is_listed}
use Rattle.cv_steps_derivations.proofs.unletting.Lists.{adds_none, unlisted}
use Rattle.cv_steps_derivations.proofs.unletting.Reach.{among_last, among_parts, first_facts, first_reach, in_reach, plain, read_variable, second_facts, second_reach, unread_head}
use Rattle.cv_steps_derivations.proofs.unletting.Sites.{OneDefinition, part_there}

-- terms, whose parts stand where they do

abbrev pub is_valued : Phrase → Bool
is_valued Nil = true
is_valued Terms = true
is_valued Term = true
is_valued σ = false

record IsValued (σ : Phrase) (h : Head) (q : Phrase × Phrase) : Type 0 where
  first : is_valued q.0 ≡ true
  second : is_valued q.1 ≡ true
  above : (Γ : Context) → first_below σ h Γ ≡ Γ
  behind : (a : Tree) (Γ : Context) → second_below σ h a Γ ≡ Γ

abbrev IfValued : Phrase → Head → Option (Phrase × Phrase) → Type 0
IfValued σ h None = Unit {0}
IfValued σ h (Some q) = IsValued σ h q

all_valued : (σ : Phrase) (h : Head) → is_valued σ ≡ true → IfValued σ h (oracle_parts σ h)
all_valued Nil h e = tt
all_valued Terms Cons e = record { first = refl; second = refl; above = λ Γ. refl; behind = λ a Γ. refl }
all_valued Terms h e = tt
all_valued Term (Leaf x) e = record { first = refl; second = refl; above = λ Γ. refl; behind = λ a Γ. refl }
all_valued Term (Read x) e = record { first = refl; second = refl; above = λ Γ. refl; behind = λ a Γ. refl }
all_valued Term (Apply f) e = record { first = refl; second = refl; above = λ Γ. refl; behind = λ a Γ. refl }
all_valued Term Eq e = record { first = refl; second = refl; above = λ Γ. refl; behind = λ a Γ. refl }
all_valued Term And e = record { first = refl; second = refl; above = λ Γ. refl; behind = λ a Γ. refl }
all_valued Term Or e = record { first = refl; second = refl; above = λ Γ. refl; behind = λ a Γ. refl }
all_valued Term Not e = record { first = refl; second = refl; above = λ Γ. refl; behind = λ a Γ. refl }
all_valued Term Yes e = record { first = refl; second = refl; above = λ Γ. refl; behind = λ a Γ. refl }
all_valued Term No e = record { first = refl; second = refl; above = λ Γ. refl; behind = λ a Γ. refl }
all_valued Term h e = tt
all_valued σ h e = absurd (both_ways false refl e)

read_term : (x : ℕ) (σ : Phrase) (h : Head) (q : Phrase × Phrase) → is_valued σ ≡ true → oracle_parts σ h ≡ Some q → head_reads x h ≡ true → σ ≡ Term
read_term x Term h q v e f = refl
read_term x Nil h q v e f = absurd (cc)
read_term x Terms (Leaf y) q v e f = absurd (cc)
read_term x Terms (Read y) q v e f = absurd (cc)
read_term x Terms h q v e f = absurd (both_ways false refl f)
read_term x σ h q v e f = absurd (both_ways false refl v)

made_weight : (x : ℕ) (h : Head) (a : Tree) → made_by h a (Variable x) ≡ true → weight h ≡ 1
made_weight x (New y T) a e = refl
made_weight x (Let y T) a e = refl
made_weight x (Key y) a e = refl
made_weight x (Call y l) a e = refl
made_weight x (In c) a e = refl
made_weight x Branch a e = refl
made_weight x h a e = absurd (both_ways false refl e)

let_parts : (σ : Phrase) (y T : ℕ) (q : Phrase × Phrase) → oracle_parts σ (Let y T) ≡ Some q → (let z : Phrase × Phrase = (Term, Body) in z) ≡ q
let_parts Body y T q e = cc
let_parts σ y T q e = absurd (cc)

module _ (g : Setting) (game : Tree) (x : ℕ) (d : Assignment) (fine : Game g (is_variable game) game) (phrase : is_phrase Inputs game ≡ true) (one : OneDefinition game x d) (free : is_listed x game ≡ false) where
  -- a term with no cell of the variable in reach doesn't read it
  silent : (σ : Phrase) → is_valued σ ≡ true → (t : Tree) {p : ℕ} {Γ : Context} → Stands game p σ Γ t → ((c : Tree) → InReach Γ c → variable_of c ≡ Some x → ⊥) → reads_none (only x) t ≡ true
  unfolding reads_only
  silent σ v Empty st k = refl
  silent σ v (Node h a b) {p = p} {Γ = Γ} st k =
      let q = has_parts σ h a b (stands_phrase g (is_variable game) game fine st) in
      let r : IsValued σ h q.0 = subst (IfValued σ h) q.1 (all_valued σ h v) in
      ap₂ ◌&&◌ (go q.0 q.1 (head_reads x h) refl)
      (ap₂ ◌&&◌ (silent q.0.0 r.first a (in_first q.1 st) (λ c i e. k c (subst (λ Δ. InReach Δ c) (r.above Γ) i) e)) (silent q.0.1 r.second b (in_second q.1 st) (λ c i e. k c (subst (λ Δ. InReach Δ c) (r.behind a Γ) i) e)))
    where
      go : (q : Phrase × Phrase) → oracle_parts σ h ≡ Some q → (w : Bool) → head_reads x h ≡ w → head_reads_only (λ y. not (only x y)) h ≡ true
      go q e true f =
          absurd (k (Node h a b) (in_reach g game x d fine phrase one free (subst (λ τ. Stands game p τ Γ (Node h a b)) (read_term x σ h q v e f) st) f) (read_variable x h a b f))
      go q e false f = unread_head x h f

  abbrev pub cell : Tree
  cell = cell_of d.behind.replications x

  pub record Told (p : ℕ) (Γ : Context) (c : Tree) : Type 0 where
    pub same : c ≡ cell
    pub fact : IsAmong (Node Eq c d.term) Γ.facts
    pub behind : one.place < p
    pub term : is_phrase Term d.term ≡ true
    pub unread : reads_none (only x) d.term ≡ true

  -- of a cell of the variable in reach
  abbrev Tells : ℕ → Context → Type 0
  Tells p Γ = (c : Tree) → InReach Γ c → variable_of c ≡ Some x → Told p Γ c

  told_later : (p q : ℕ) (Γ Δ : Context) (c : Tree) → p ≤ q → ((f : Tree) → IsAmong f Γ.facts → IsAmong f Δ.facts) → Told p Γ c → Told q Δ c
  told_later p q Γ Δ c l k t = record { same = t.same; fact = k _ t.fact; behind = (let m = t.behind in omega arith); term = t.term; unread = t.unread }

  -- behind the definition
  defined : {p : ℕ} {σ : Phrase} {Γ : Context} {h : Head} {a b : Tree} → Stands game p σ Γ (Node h a b) → made_by h a (Variable x) ≡ true → Tells p Γ → Tells (second_place p h a) (second_below σ h a Γ)
  defined {p = p} {σ = σ} {Γ = Γ} {h = h} {a = a} {b = b} st m tells =
      at_let h a b st m (ap (λ (z : ℕ × Context). z.0) there) (ap (λ (z : ℕ × Context). z.1.replications) there)
      (ap assigned_in (sym (part_there game p σ Γ h a b st (made_weight x h a m)) ∙ ap (part_at game) (ap (λ (z : ℕ × Context). z.0) there)) ∙ one.assigned)
    where
      lone : (z : ℕ × Context) → IsDefinition z ((one.place, one.known) ∷ []) → z ≡ (one.place, one.known)
      lone z (inl i) = i
      lone z (inr i) = absurd i

      there : (let z : ℕ × Context = (p, after_site h a b Γ) in z) ≡ (one.place, one.known)
      there = lone (p, after_site h a b Γ) (subst (IsDefinition (p, after_site h a b Γ)) one.one (stands_definition game x p σ Γ h a b st m))

      at_let : (h : Head) (a b : Tree) → Stands game p σ Γ (Node h a b) → made_by h a (Variable x) ≡ true → p ≡ one.place → (after_site h a b Γ).replications ≡ one.known.replications → assigned_in (Node h a b) ≡ Some d.term
          → Tells (second_place p h a) (second_below σ h a Γ)
      at_let (Let y T) a b st m here rs e c r v = go r
        where
          term : a ≡ d.term
          term = cc

          parts : (q : Phrase × Phrase) × (oracle_parts σ (Let y T) ≡ Some q)
          parts = has_parts σ (Let y T) a b (stands_phrase g (is_variable game) game fine st)

          first : Stands game (first_place p (Let y T)) Term Γ a
          first = in_first (parts.1 ∙ ap Some (sym (let_parts σ y T parts.0 parts.1))) st

          before : (c : Tree) → InReach Γ c → variable_of c ≡ Some x → ⊥
          before c i v = let l = (tells c i v).behind in absurd (omega arith)

          own : cell_of Γ.replications y ≡ cell
          own = ap₂ cell_of (rs ∙ one.replications) (sym (eqb-true x y m))

          new : c ≡ cell_of Γ.replications y → Told (second_place p (Let y T) a) (second_below σ (Let y T) a Γ) c
          new i = record {
            same = i ∙ own;
            fact = subst (λ t. IsAmong t (Γ.facts ++ Node Eq (cell_of Γ.replications y) a ∷ [])) (ap₂ (Node Eq) (sym i) term) (among_last (Node Eq (cell_of Γ.replications y) a) Γ.facts);
            behind = omega arith;
            term = subst (λ t. is_phrase Term t ≡ true) term (plain g game x d fine phrase one free first);
            unread = subst (λ t. reads_none (only x) t ≡ true) term (silent Term refl a first before);
          }

          split : IsAmong c Γ.cells ⊎ IsAmong c (cell_of Γ.replications y ∷ []) → Told (second_place p (Let y T) a) (second_below σ (Let y T) a Γ) c
          split (inl i) = absurd (before c (inl i) v)
          split (inr (inl i)) = new i
          split (inr (inr i)) = absurd i

          go : IsAmong c (Γ.cells ++ cell_of Γ.replications y ∷ []) ⊎ IsAmong c Γ.own → Told (second_place p (Let y T) a) (second_below σ (Let y T) a Γ) c
          go (inl i) = split (among_parts c Γ.cells (cell_of Γ.replications y ∷ []) i)
          go (inr i) = absurd (before c (inr i) v)
      at_let h a b st m here rs e c r v = absurd (cc)

  tells : {p : ℕ} {σ : Phrase} {Γ : Context} {b : Tree} → Stands game p σ Γ b → Tells p Γ
  tells root c (inl i) v = absurd i
  tells root c (inr i) v = absurd i
  tells (in_first {p = p} {σ = σ} {Γ = Γ} {h = h} e st) c r v =
      told_later p (first_place p h) Γ (first_below σ h Γ) c (omega arith) (first_facts (position_of σ) h Γ) (tells st c (first_reach (position_of σ) h Γ c r) v)
  tells (in_second {p = p} {σ = σ} {Γ = Γ} {h = h} {a = a} {b = b} e st) c r v = go (made_by h a (Variable x)) refl (tells st)
    where
      go : (w : Bool) → made_by h a (Variable x) ≡ w → Tells p Γ → Told (second_place p h a) (second_below σ h a Γ) c
      go true m k = defined st m k c r v
      go false m k =
          told_later p (second_place p h a) Γ (second_below σ h a Γ) c (omega arith) (second_facts (position_of σ) h a Γ)
          (k c (second_reach x (position_of σ) h a Γ m (adds_none x σ h a b (unlisted x game free st)) c v r) v)

  pub told : {p : ℕ} {Γ : Context} {h : Head} {a b : Tree} → Stands game p Term Γ (Node h a b) → head_reads x h ≡ true → Told p Γ (Node h a b)
  told {h = h} {a = a} {b = b} st e = tells st (Node h a b) (in_reach g game x d fine phrase one free st e) (read_variable x h a b e)
