-- From the stages of reading a term to what its tokens say.
use Rattle.std.proofs.Common.{◌≡◌, ℕ, zero, suc, ◌+◌, ◌<◌, ◌≤◌, Bool, true, false, nat_lt, if◌then◌else◌, List, [], ◌∷◌, take, length, length-drop, get_or, refl, ap, subst, sym, ◌∙◌, arith, Result, Ok, Err}
use Rattle.std.proofs.lemmas.Bool.Decides.{nat_tests}
use Rattle.std.specs.Prelude.{IsErrAnd, max}
use Rattle.cv_pool.specs.declared.node.NodeId.{NodeId}
use Rattle.cv_pool.specs.KindTree.{KindTree}
use Rattle.cv_syntax.specs.declared.work.BuildError.TheVariants as build
use Rattle.cv_syntax_trees.specs.Tree.{Tree}
use Rattle.cv_parse_notation.specs.declared.sign.Sign.{Sign}
use Rattle.cv_parse_terms.specs.declared.lookahead.ReadError.{ReadError}
use Rattle.cv_parse_terms.specs.declared.lookahead.ReadError.TheVariants as reading
use Rattle.cv_parse_terms.specs.declared.trail.Trail.{Trail}
use Rattle.cv_parse_terms.specs.Gives.{Fails}
use Rattle.cv_parse.specs.declared.error.ParseError.{ParseError}
use Rattle.cv_parse.specs.declared.error.ParseError.TheVariants.{Syntax, Nesting, NameTwice, NameUnknown, Build}
use Rattle.cv_parse.specs.Building.{Crowds}
use Rattle.cv_parse.specs.Parsed.{Refuses}
use Rattle.cv_parse.specs.Games.{nodes_of}
use Rattle.cv_parse.specs.Stages.{IsTerm, shifted}
use Rattle.cv_parse.specs.Terms.{ReadsTerm, names_by, names_within, of_term, read_term, roomed_term, term_of}
use Rattle.cv_parse.proofs.Outcomes.{refuses_on}
use Rattle.cv_syntax_trees.proofs.lists.Tests.{then_branch, else_branch}

-- an error that was passed on
pub term_passed_on : (read : Result (Tree × ℕ) ParseError) (trees : List KindTree) (r : Result (NodeId × ℕ) ParseError) (e : ParseError) → IsErrAnd r (λ x. x ≡ e) → Refuses e read → ReadsTerm read trees r
term_passed_on read trees (Ok g) e i h = absurd i
term_passed_on read trees (Err x) e i h = subst (λ y. Refuses y read) (sym i) h

-- a fault of the grammar
pub term_fault : (limit live from : ℕ) (signs : List Sign) (e : ReadError) → from + length signs < 4294967296 → Fails signs e (read_term signs) → Refuses (shifted from e) (term_of limit live from signs)
unfolding term_of
term_fault limit live from signs (reading.Syntax k) l h = ap (of_term limit live (from + length signs)) h.1 ∙ ap (λ m. let r : Result (Tree × ℕ) ParseError = Err (Syntax m) in r) (let i = h.0 in omega arith)
term_fault limit live from signs (reading.Nesting k) l h = ap (of_term limit live (from + length signs)) h.1 ∙ ap (λ m. let r : Result (Tree × ℕ) ParseError = Err (Nesting m) in r) (let i = h.0 in omega arith)
term_fault limit live from signs reading.OutOfMemory l h = tt

-- the room of a pool

full : (limit live : ℕ) (t : Tree) (next : ℕ) → limit < live + nodes_of t → roomed_term limit live t next ≡ Err (Build (build.Full (nodes_of t)))
full limit live t next l = then_branch {A = Result (Tree × ℕ) ParseError} (Err (Build (build.Full (nodes_of t)))) (Ok (t, next)) (nat_lt limit (live + nodes_of t)) (grind (arith, nat_tests))

pub term_room : (limit live : ℕ) (t : Tree) (next : ℕ) → live + nodes_of t ≤ limit → roomed_term limit live t next ≡ Ok (t, next)
term_room limit live t next l = else_branch {A = Result (Tree × ℕ) ParseError} (Err (Build (build.Full (nodes_of t)))) (Ok (t, next)) (nat_lt limit (live + nodes_of t)) (grind (arith, nat_tests))

crowd_refuses : (limit live : ℕ) (t : Tree) (next : ℕ) (e : ParseError) → Crowds limit live (nodes_of t) e → Refuses e (roomed_term limit live t next)
crowd_refuses limit live t next (Syntax k) h = full limit live t next h.1 ∙ ap Err (sym h.0)
crowd_refuses limit live t next (Nesting k) h = full limit live t next h.1 ∙ ap Err (sym h.0)
crowd_refuses limit live t next (NameTwice k) h = full limit live t next h.1 ∙ ap Err (sym h.0)
crowd_refuses limit live t next (NameUnknown k) h = full limit live t next h.1 ∙ ap Err (sym h.0)
crowd_refuses limit live t next (Build (build.Full n)) h = full limit live t next h.1 ∙ ap Err (sym h.0)
crowd_refuses limit live t next (Build (build.Nodes n)) h = full limit live t next h.1 ∙ ap Err (sym h.0)
crowd_refuses limit live t next (Build (build.Depth n)) h = full limit live t next h.1 ∙ ap Err (sym h.0)
crowd_refuses limit live t next (Build build.OutOfMemory) h = tt

module _ (limit live from : ℕ) (signs : List Sign) (old new : Trail) (next : ℕ) (d : IsTerm signs old new next) where
  by_read : term_of limit live from signs ≡ roomed_term limit live d.term (from + next)
  unfolding term_of
  by_read = ap (of_term limit live (from + length signs)) d.is ∙ ap (roomed_term limit live d.term) (let l = length-drop next signs in let w = d.within in omega arith)

  -- by the room of the pool
  pub term_crowded : (e : ParseError) → Crowds limit live (nodes_of d.term) e → Refuses e (term_of limit live from signs)
  term_crowded e h = refuses_on e (roomed_term limit live d.term (from + next)) (term_of limit live from signs) (λ i. by_read ∙ i) (crowd_refuses limit live d.term (from + next) e h)

  -- what was built is what is read
  pub term_reads : (t : Tree) → live + nodes_of d.term ≤ limit → t ≡ d.term → term_of limit live from signs ≡ Ok (t, from + next)
  term_reads t l e = by_read ∙ (term_room limit live d.term (from + next) l ∙ ap (λ u. Ok (u, from + next)) (sym e))

-- one sign more
pub within_next : (known : ℕ) (signs : List Sign) (d : Sign) (k : ℕ) → k < length signs → names_within known (take (k + 1) signs) ≡ max (names_within known (take k signs)) (names_by (get_or signs k d))
within_next known [] d k l = absurd (omega arith)
within_next known (s ∷ signs) d zero l = refl
within_next known (s ∷ signs) d (suc k) l = let e : suc k + 1 ≡ suc (k + 1) = omega arith in ap (λ n. names_within known (take n (s ∷ signs))) e ∙ within_next (max known (names_by s)) signs d k (omega arith)
