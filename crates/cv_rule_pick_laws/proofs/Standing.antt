-- Where what is replaced stands, and what is known there.
use Rattle.std.proofs.Common.{◌≡◌, ℕ, ◌+◌, Bool, true, false, List, [], ◌∷◌, ◌++◌, inl, inr, refl, sym, ap, subst, ◌∙◌, arith}
use Rattle.std.proofs.lemmas.Bool.{both_ways}
use Rattle.std.proofs.lemmas.List.{append-nil, append_assoc}
use Rattle.cv_syntax_trees.specs.declared.head.Head.{Head}
use Rattle.cv_syntax_trees.specs.declared.head.Head.TheVariants.{Repl, In, Event, New, Let, If, Find, Branch, Cons, Par, Key, Call}
use Rattle.cv_syntax_trees.specs.Tree.{Tree, Node, first_place, second_place}
use Rattle.cv_meaning.specs.Interpretation.{Setting}
use Rattle.cv_meaning_runs.specs.Replacement as at
use Rattle.cv_meaning_runs.specs.Replacement.{IsReplaced, Part, before_body}
use Rattle.cv_scope_rules.specs.declared.position.Position.{Position}
use Rattle.cv_scope_rules.specs.declared.position.Position.TheVariants as position
use Rattle.cv_scope_rules.specs.Context.{Context, first_context, replications_below, second_context}
use Rattle.cv_scope_rules.specs.Phrases.{Phrase, Body, is_oracle_phrase}
use Rattle.cv_scope_rules.specs.Rules.{IsAmong}
use Rattle.cv_scope_rules.proofs.Apart.{first_replications, second_replications}
use Rattle.cv_scope_runs.proofs.Games.{Game, has_parts, stands_phrase}
use Rattle.cv_scope_runs.proofs.Rows.{position_of}
use Rattle.cv_scope_runs.proofs.Standing.{Stands, in_first, in_second, first_below, second_below}

-- a place where something stands

pub record IsPlace (game : Tree) (place : ℕ) (t : Tree) : Type 0 where
  pub phrase : Phrase
  pub above : Context
  pub stands : Stands game place phrase above t

pub moved : (game : Tree) (p q : ℕ) (t : Tree) → p ≡ q → IsPlace game p t → IsPlace game q t
moved game p q t e k = subst (λ n. IsPlace game n t) e k

module _ (g : Setting) (variable : ℕ → Bool) (game : Tree) (fine : Game g variable game) where
  first_child : (p : ℕ) (h : Head) (a b : Tree) → IsPlace game p (Node h a b) → IsPlace game (first_place p h) a
  first_child p h a b k =
      let q = has_parts k.phrase h a b (stands_phrase g variable game fine k.stands) in
      record { phrase = q.0.0; above = first_below k.phrase h k.above; stands = in_first q.1 k.stands }

  second_child : (p : ℕ) (h : Head) (a b : Tree) → IsPlace game p (Node h a b) → IsPlace game (second_place p h a) b
  second_child p h a b k =
      let q = has_parts k.phrase h a b (stands_phrase g variable game fine k.stands) in
      record { phrase = q.0.1; above = second_below k.phrase h a k.above; stands = in_second q.1 k.stands }

  body_child : (p : ℕ) (us ds m b more : Tree) → IsPlace game p (Node Cons (Node Branch us (Node Cons ds (Node Cons m b))) more) → IsPlace game (p + before_body us ds m) b
  body_child p us ds m b more k =
      moved game _ (p + before_body us ds m) b (omega arith)
      (second_child _ Cons m b (second_child _ Cons ds (Node Cons m b) (second_child _ Branch us (Node Cons ds (Node Cons m b)) (first_child p Cons (Node Branch us (Node Cons ds (Node Cons m b))) more k))))

  pub stands_old : (old new : Tree) (place : ℕ) (part : Part) (p : ℕ) (t u : Tree) → IsReplaced old new place part p t u → IsPlace game p t → IsPlace game place old
  stands_old old new place part p t u at.here k = k
  stands_old old new place part p t u (at.in_continuation {h = h} {a = a} {b = b} {c = c} z) k = stands_old old new place at.Process (second_place p h a) b c z (second_child p h a b k)
  stands_old old new place part p t u (at.in_parallel {a = a} {b = b} {c = c} z) k = stands_old old new place at.Process (first_place p Par) a c z (first_child p Par a b k)
  stands_old old new place part p t u (at.in_list {a = a} {b = b} {c = c} z) k = stands_old old new place at.Process (first_place p Cons) a c z (first_child p Cons a b k)
  stands_old old new place part p t u (at.in_find {l = l} {a = a} {b = b} {c = c} z) k = stands_old old new place at.Branches (first_place p (Find l)) a c z (first_child p (Find l) a b k)
  stands_old old new place part p t u (at.in_branch {binders = us} {defined = ds} {condition = m} {b = b} {c = c} {more = more} z) k =
      stands_old old new place at.Process (p + before_body us ds m) b c z (body_child p us ds m b more k)
  stands_old old new place part p t u (at.in_later_branch {a = a} {b = b} {c = c} z) k = stands_old old new place at.Branches (second_place p Cons a) b c z (second_child p Cons a b k)

pub find_body : (σ : Phrase) (l : ℕ) (a b : Tree) → is_oracle_phrase σ (Node (Find l) a b) ≡ true → σ ≡ Body
unfolding is_oracle_phrase
find_body Body l a b e = refl
find_body σ l a b e = absurd (both_ways false refl e)

-- contexts below another one

pub record IsBelow (Γ Δ : Context) : Type 0 where
  pub more : List (ℕ × ℕ)
  pub replications : Δ.replications ≡ Γ.replications ++ more
  pub cells : (c : Tree) → IsAmong c Γ.cells → IsAmong c Δ.cells

pub below_same : (Γ : Context) → IsBelow Γ Γ
below_same Γ = record { more = []; replications = sym (append-nil Γ.replications); cells = λ c i. i }

pub among_left : (c : Tree) (cs ds : List Tree) → IsAmong c cs → IsAmong c (cs ++ ds)
among_left c [] ds i = absurd i
among_left c (e ∷ cs) ds (inl i) = inl i
among_left c (e ∷ cs) ds (inr i) = inr (among_left c cs ds i)

pub among_right : (c : Tree) (cs ds : List Tree) → IsAmong c ds → IsAmong c (cs ++ ds)
among_right c [] ds i = i
among_right c (e ∷ cs) ds i = inr (among_right c cs ds i)

first_cells : (w : Position) (h : Head) (Γ : Context) (c : Tree) → IsAmong c Γ.cells → IsAmong c (first_context w h Γ).cells
first_cells position.Bodies Cons Γ c i = i
first_cells position.ElseBody Cons Γ c i = i
first_cells w Cons Γ c i = i
first_cells w h Γ c i = i

second_cells : (w : Position) (h : Head) (a : Tree) (Γ : Context) (c : Tree) → IsAmong c Γ.cells → IsAmong c (second_context w h a Γ).cells
second_cells position.Guards Cons a Γ c i = among_left c Γ.cells _ i
second_cells position.Guarded Cons a Γ c i = among_left c Γ.cells _ i
second_cells position.Cells Cons a Γ c i = among_left c Γ.cells _ i
second_cells w Cons a Γ c i = i
second_cells w (Repl j n) a Γ c i = i
second_cells w (In k) a Γ c i = among_left c Γ.cells _ i
second_cells w (New y T) a Γ c i = among_left c Γ.cells _ i
second_cells w (Let y T) a Γ c i = among_left c Γ.cells _ i
second_cells w (Key y) a Γ c i = among_left c Γ.cells _ i
second_cells w (Call y l) a Γ c i = among_left c Γ.cells _ i
second_cells w (Event e) a Γ c i = i
second_cells w If a Γ c i = i
second_cells w Branch a Γ c i = i
second_cells w h a Γ c i = i

abbrev more_below : Head → List (ℕ × ℕ)
more_below (Repl i n) = (i, n) ∷ []
more_below h = []

replications_more : (h : Head) (rs : List (ℕ × ℕ)) → replications_below h rs ≡ rs ++ more_below h
replications_more (Repl i n) rs = refl
replications_more h rs = sym (append-nil rs)

module _ (Γ : Context) (σ : Phrase) (h : Head) (Δ : Context) (k : IsBelow Γ Δ) where
  pub first_is_below : IsBelow Γ (first_below σ h Δ)
  first_is_below = record { more = k.more; replications = first_replications (position_of σ) h Δ ∙ k.replications; cells = λ c i. first_cells (position_of σ) h Δ c (k.cells c i) }

  pub second_is_below : (a : Tree) → IsBelow Γ (second_below σ h a Δ)
  second_is_below a = record {
    more = k.more ++ more_below h;
    replications = second_replications (position_of σ) h a Δ ∙ (ap (replications_below h) k.replications ∙ (replications_more h (Γ.replications ++ k.more) ∙ append_assoc Γ.replications k.more (more_below h)));
    cells = λ c i. second_cells (position_of σ) h a Δ c (k.cells c i);
  }
