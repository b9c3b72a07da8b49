-- Terms, and lists of binders: nothing is drawn there. A term is one in the context too.
use Rattle.std.proofs.Common.{◌≡◌, ℕ, ◌+◌, Bool, true, false, cond, ◌&&◌, List, [], ◌∷◌, length, Option, Some, None, is_some, refl, ap, ap₂, subst, ◌∙◌}
use Rattle.std.proofs.lemmas.Bool.{both_ways, and_parts}
use Rattle.cv_syntax_trees.specs.declared.head.Head.{Head}
use Rattle.cv_syntax_trees.specs.declared.head.Head.TheVariants.{And, Apply, Binder, Call, Cons, Eq, Event, If, In, Key, Leaf, Let, Name, New, No, Not, Or, Out, Read, Yes}
use Rattle.cv_syntax_trees.specs.Tree.{Tree, Empty, Node}
use Rattle.cv_meaning_runs.specs.Listed.{head_is_testable, is_testable}
use Rattle.cv_scope_rules.specs.Context.{cell_of, first_position, index_terms, replications_below, second_position}
use Rattle.cv_scope_rules.specs.Phrases.{Phrase, Binders, Cells, Indices, Message, Nil, OneCell, Pattern, Term, Terms, is_phrase, parts}
use Rattle.cv_scope_rules.specs.declared.position.Position.{Position}
use Rattle.cv_steps.proofs.Flat.{AreStill, IfStill, is_of_terms, open_phrase, rows_still}
use Rattle.cv_scene.specs.Instances.{Call as Found, call_at}
use Rattle.cv_scene.specs.Sites.{Site, is_guard, sites_in}
use Rattle.cv_scene.specs.Contexts.{after_calls, context_in, in_context, is_statement}
use Rattle.cv_scene.specs.Reductions.{Reduction, is_coin, matching}
use Rattle.cv_match_laws.proofs.values.Numbers.{context}

-- constructs of terms and of lists

abbrev pub head_is_term : Head → Bool
head_is_term (Leaf x) = true
head_is_term (Read x) = true
head_is_term (Apply f) = true
head_is_term Eq = true
head_is_term And = true
head_is_term Or = true
head_is_term Not = true
head_is_term Yes = true
head_is_term No = true
head_is_term Cons = true
head_is_term (Name i) = true
head_is_term h = false

abbrev pub has_terms_alone : Tree → Bool
has_terms_alone Empty = true
has_terms_alone (Node h a b) = head_is_term h && (has_terms_alone a && has_terms_alone b)

-- these, and binders

abbrev pub head_is_flat : Head → Bool
head_is_flat (Binder x T) = true
head_is_flat h = head_is_term h

abbrev pub is_flat : Tree → Bool
is_flat Empty = true
is_flat (Node h a b) = head_is_flat h && (is_flat a && is_flat b)

pub flat_head : (h : Head) → head_is_term h ≡ true → head_is_flat h ≡ true
flat_head (Binder x T) e = refl
flat_head h e = e

pub flat_terms : (t : Tree) → has_terms_alone t ≡ true → is_flat t ≡ true
flat_terms Empty e = refl
flat_terms (Node h a b) e =
    let p = and_parts (head_is_term h) _ e in
    let q = and_parts (has_terms_alone a) _ p.1 in ap₂ ◌&&◌ (flat_head h p.0) (ap₂ ◌&&◌ (flat_terms a q.0) (flat_terms b q.1))

-- phrases of these

rows_terms : (σ : Phrase) (h : Head) → is_of_terms σ ≡ true → is_some (parts σ h) ≡ true → head_is_term h ≡ true
rows_terms Nil h e f = absurd (both_ways false refl f)
rows_terms Terms Cons e f = refl
rows_terms Terms h e f = absurd (both_ways false refl f)
rows_terms Message Cons e f = refl
rows_terms Message h e f = absurd (both_ways false refl f)
rows_terms Indices (Name i) e f = refl
rows_terms Indices h e f = absurd (both_ways false refl f)
rows_terms Cells Cons e f = refl
rows_terms Cells h e f = absurd (both_ways false refl f)
rows_terms OneCell (Leaf x) e f = refl
rows_terms OneCell (Read x) e f = refl
rows_terms OneCell h e f = absurd (both_ways false refl f)
rows_terms Term (Leaf x) e f = refl
rows_terms Term (Read x) e f = refl
rows_terms Term (Apply g) e f = refl
rows_terms Term Eq e f = refl
rows_terms Term And e f = refl
rows_terms Term Or e f = refl
rows_terms Term Not e f = refl
rows_terms Term Yes e f = refl
rows_terms Term No e f = refl
rows_terms Term h e f = absurd (both_ways false refl f)
rows_terms σ h e f = absurd (both_ways false refl e)

pub phrase_terms : (σ : Phrase) (t : Tree) → is_of_terms σ ≡ true → is_phrase σ t ≡ true → has_terms_alone t ≡ true
phrase_terms σ Empty f e = refl
phrase_terms σ (Node h a b) f e =
    let o = open_phrase σ h a b e in
    let r : AreStill h o.0 = subst (IfStill h) o.1 (rows_still σ h f) in
    ap₂ ◌&&◌ (rows_terms σ h f (ap is_some o.1)) (ap₂ ◌&&◌ (phrase_terms o.0.0 a r.first o.2) (phrase_terms o.0.1 b r.second o.3))

pub phrase_flat : (σ : Phrase) (t : Tree) → is_of_terms σ ≡ true → is_phrase σ t ≡ true → is_flat t ≡ true
phrase_flat σ t f e = flat_terms t (phrase_terms σ t f e)

pub binders_flat : (t : Tree) → is_phrase Binders t ≡ true → is_flat t ≡ true
unfolding is_phrase
binders_flat Empty e = refl
binders_flat (Node (Binder x T) a b) e = let p = and_parts (is_phrase Nil a) _ e in ap₂ ◌&&◌ (phrase_flat Nil a refl p.0) (binders_flat b p.1)
binders_flat (Node h a b) e = absurd (both_ways false refl e)

pub pattern_flat : (t : Tree) → is_phrase Pattern t ≡ true → is_flat t ≡ true
unfolding is_phrase
pattern_flat (Node Cons a b) e = let p = and_parts (is_phrase Indices a) _ e in ap₂ ◌&&◌ (phrase_flat Indices a refl p.0) (binders_flat b p.1)
pattern_flat t e = absurd (both_ways false refl e)

-- terms in the context

index_terms_alone : (rs : List (ℕ × ℕ)) → has_terms_alone (index_terms rs) ≡ true
index_terms_alone [] = refl
index_terms_alone (r ∷ rs) = index_terms_alone rs

cell_terms : (rs : List (ℕ × ℕ)) (x : ℕ) → has_terms_alone (cell_of rs x) ≡ true
cell_terms [] x = refl
cell_terms (r ∷ rs) x = ap (λ b. b && true) (index_terms_alone rs)

plain_node : (r : Reduction) (h : Head) → head_is_term h ≡ true → (j : ℕ) (ss : List Site) (a b : Tree)
    → after_calls r.answer j (cond (is_statement h) ss []) (in_context (matching r) (is_coin r) h a b) ≡ Node h a b
plain_node r (New x T) e j ss a b = absurd (both_ways false refl e)
plain_node r (Let x T) e j ss a b = absurd (both_ways false refl e)
plain_node r If e j ss a b = absurd (both_ways false refl e)
plain_node r (Event x) e j ss a b = absurd (both_ways false refl e)
plain_node r (Out c) e j ss a b = absurd (both_ways false refl e)
plain_node r h e j ss a b = refl

pub terms_in : (r : Reduction) (w : Position) (rs : List (ℕ × ℕ)) (j : ℕ) (t : Tree) → has_terms_alone t ≡ true → has_terms_alone (context r w rs j t) ≡ true
unfolding context_in
terms_in r w rs j Empty e = refl
terms_in r w rs j (Node h a b) e =
    let p = and_parts (head_is_term h) _ e in
    let q = and_parts (has_terms_alone a) _ p.1 in
    go (call_at (matching r) (Node h a b)) (is_guard w) p.0 q.0 (terms_in r (first_position w h) rs j a q.0) (terms_in r (second_position w h) (replications_below h rs) (j + length ss) b q.1)
  where
    ss : List Site
    ss = cond (is_guard w) [] (sites_in (matching r) (first_position w h) rs 0 a)

    A : Tree
    A = context r (first_position w h) rs j a

    B : Tree
    B = context r (second_position w h) (replications_below h rs) (j + length ss) b

    here : (z : Bool) → has_terms_alone a ≡ true → has_terms_alone A ≡ true → has_terms_alone (cond z a A) ≡ true
    here true f g = f
    here false f g = g

    go : (o : Option Found) (z : Bool) → head_is_term h ≡ true → has_terms_alone a ≡ true → has_terms_alone A ≡ true → has_terms_alone B ≡ true → has_terms_alone (elim o as (λ _. Tree) [
      | Some c ↦ cell_of rs (r.answer j)
      | None ↦ after_calls r.answer j (cond (is_statement h) ss []) (in_context (matching r) (is_coin r) h (cond z a A) B)
    ]) ≡ true
    go (Some c) z p f g k = cell_terms rs (r.answer j)
    go None z p f g k = ap has_terms_alone (plain_node r h p j ss (cond z a A) B) ∙ ap₂ ◌&&◌ p (ap₂ ◌&&◌ (here z f g) k)

-- tests come to none of these

flat_head_testable : (x : ℕ) (h : Head) (a : Tree) → head_is_flat h ≡ true → head_is_testable x h a ≡ true
flat_head_testable x (Key y) a e = absurd (both_ways false refl e)
flat_head_testable x (Call y l) a e = absurd (both_ways false refl e)
flat_head_testable x (In c) a e = absurd (both_ways false refl e)
flat_head_testable x h a e = refl

pub flat_testable : (x : ℕ) (t : Tree) → is_flat t ≡ true → is_testable x t ≡ true
flat_testable x Empty e = refl
flat_testable x (Node h a b) e =
    let p = and_parts (head_is_flat h) _ e in
    let q = and_parts (is_flat a) _ p.1 in ap₂ ◌&&◌ (flat_head_testable x h a p.0) (ap₂ ◌&&◌ (flat_testable x a q.0) (flat_testable x b q.1))
