-- What a construct names outside of its bodies, where no place of it names the variable there.
use Rattle.std.proofs.Common.{◌≡◌, ℕ, ◌-◌, ◌+◌, Bool, true, false, cond, nat_lt, Option, Some, None, refl, sym, ap, ◌∙◌}
use Rattle.std.proofs.lemmas.Bool.{and_parts, both_ways}
use Rattle.cv_syntax_trees.specs.declared.head.Head.{Head}
use Rattle.cv_syntax_trees.specs.declared.head.Head.TheVariants.{Event, New, Let, If, Find, Branch, Cons}
use Rattle.cv_syntax_trees.specs.Head.{weight}
use Rattle.cv_syntax_trees.specs.Tree.{Tree, Empty, Node, second_place, size, subtree}
use Rattle.cv_syntax_trees.specs.sites.Sites.{first_of}
use Rattle.cv_scope_rules.specs.Made.{is_bound}
use Rattle.cv_scope_rules.specs.Phrases.{Body, Branches, Else, Nil, Phrase, Term, Terms, Then, is_phrase}
use Rattle.cv_scene.specs.Scenes.{first_reading}
use Rattle.cv_meaning.specs.Still.{is_still}
use Rattle.cv_meaning_chances.specs.unread.Dropping.{reads_none}
use Rattle.cv_steps.specs.Changes.{only}
use Rattle.cv_steps.proofs.Flat.{nil_still, open_phrase, term_still}
use Rattle.cv_steps_laws.proofs.Unnamed.{unlisted_unread}
use Rattle.cv_rule_move.specs.Moving.{defined, first_naming_branch}

pub none_of : (o q : Option ℕ) → first_of o q ≡ None → (o ≡ None) × (q ≡ None)
none_of None q e = (refl, e)
none_of (Some n) q e = absurd (cc)

pub not_here : (b : Bool) (p : ℕ) (o : Option ℕ) → cond b (Some p) o ≡ None → (b ≡ false) × (o ≡ None)
not_here true p o e = absurd (cc)
not_here false p o e = (refl, e)

-- a branch, with those behind it
pub record BranchUnnamed (x place : ℕ) (us cells c more : Tree) : Type 0 where
  pub bound : is_bound us x ≡ false
  pub list : reads_none (only x) cells ≡ true
  pub condition : reads_none (only x) c ≡ true
  pub later : first_naming_branch x place more ≡ None

pub branch_unnamed : (x p : ℕ) (us cells c body more : Tree) → first_naming_branch x p (Node Cons (Node Branch us (Node Cons cells (Node Cons c body))) more) ≡ None
    → BranchUnnamed x (second_place p Cons (Node Branch us (Node Cons cells (Node Cons c body)))) us cells c more
branch_unnamed x p us cells c body more e =
    let later : Option ℕ = first_naming_branch x (second_place p Cons (Node Branch us (Node Cons cells (Node Cons c body)))) more in
    let condition : Option ℕ = first_reading x (second_place p Branch us + size cells) c in
    let list : Option ℕ = first_reading x (second_place p Branch us) cells in
    let a = not_here (is_bound us x) p (first_of list (first_of condition later)) e in
    let b = none_of list (first_of condition later) a.1 in
    let d = none_of condition later b.1 in
    record {
      bound = a.0;
      list = unlisted_unread x (second_place p Branch us) cells b.0;
      condition = unlisted_unread x (second_place p Branch us + size cells) c d.0;
      later = d.1;
    }

-- what stands at a place of a phrase is one
pub phrase_at : (σ : Phrase) (t : Tree) (p : ℕ) (o : Tree) → is_phrase σ t ≡ true → subtree t p ≡ Some o → (τ : Phrase) × (is_phrase τ o ≡ true)
unfolding subtree
phrase_at σ Empty p o e s = absurd (cc)
phrase_at σ (Node h a b) p o e s =
    let q = open_phrase σ h a b e in
    go (nat_lt p (weight h)) (nat_lt p (weight h + size a)) s (phrase_at q.0.0 a (p - weight h) o q.2) (phrase_at q.0.1 b (p - (weight h + size a)) o q.3)
  where
    go : (v w : Bool) → cond v (Some (Node h a b)) (cond w (subtree a (p - weight h)) (subtree b (p - (weight h + size a)))) ≡ Some o
        → (subtree a (p - weight h) ≡ Some o → (τ : Phrase) × (is_phrase τ o ≡ true)) → (subtree b (p - (weight h + size a)) ≡ Some o → (τ : Phrase) × (is_phrase τ o ≡ true))
        → (τ : Phrase) × (is_phrase τ o ≡ true)
    go true w i k l = let j : Node h a b ≡ o = cc in (σ, ap (is_phrase σ) (sym j) ∙ e)
    go false true i k l = k i
    go false false i k l = l i

-- the children of constructs

pub drawn_of : (y T : ℕ) (a b : Tree) → is_phrase Body (Node (New y T) a b) ≡ true → is_phrase Nil a ≡ true
unfolding is_phrase
drawn_of y T a b e = (and_parts (is_phrase Nil a) _ e).0

pub assigned_of : (y T : ℕ) (m b : Tree) → is_phrase Body (Node (Let y T) m b) ≡ true → is_phrase Term m ≡ true
unfolding is_phrase
assigned_of y T m b e = (and_parts (is_phrase Term m) _ e).0

pub told_of : (z : ℕ) (ms b : Tree) → is_phrase Body (Node (Event z) ms b) ≡ true → is_phrase Terms ms ≡ true
unfolding is_phrase
told_of z ms b e = (and_parts (is_phrase Terms ms) _ e).0

pub condition_of : (m rest : Tree) → is_phrase Body (Node If m rest) ≡ true → is_phrase Term m ≡ true
unfolding is_phrase
condition_of m rest e = (and_parts (is_phrase Term m) _ e).0

pub then_of : (m rest : Tree) → is_phrase Body (Node If m rest) ≡ true → is_phrase Then rest ≡ true
unfolding is_phrase
then_of m rest e = (and_parts (is_phrase Term m) _ e).1

pub else_of : (body rest : Tree) → is_phrase Then (Node Cons body rest) ≡ true → is_phrase Else rest ≡ true
unfolding is_phrase
else_of body rest e = (and_parts (is_phrase Body body) _ e).1

pub branches_of : (l : ℕ) (branches otherwise : Tree) → is_phrase Body (Node (Find l) branches otherwise) ≡ true → is_phrase Branches branches ≡ true
unfolding is_phrase
branches_of l branches otherwise e = (and_parts (is_phrase Branches branches) _ e).0

-- a definition in a game has a term or nothing, and a process behind it

pub record DefinitionParts (a b : Tree) : Type 0 where
  pub still : is_still a ≡ true
  pub behind : is_phrase Body b ≡ true

pub definition_parts : (h : Head) (a b : Tree) (x : ℕ) → defined (Node h a b) ≡ Some x → (σ : Phrase) → is_phrase σ (Node h a b) ≡ true → DefinitionParts a b
unfolding is_phrase
definition_parts (New y T) a b x d Body e = let p = and_parts (is_phrase Nil a) _ e in record { still = nil_still a p.0; behind = p.1 }
definition_parts (New y T) a b x d σ e = absurd (both_ways false refl e)
definition_parts (Let y T) a b x d Body e = let p = and_parts (is_phrase Term a) _ e in record { still = term_still a p.0; behind = p.1 }
definition_parts (Let y T) a b x d σ e = absurd (both_ways false refl e)
definition_parts h a b x d σ e = absurd (cc)
