-- From the stages of reading a game to what its tokens say, or what they are refused for.
use Rattle.std.proofs.Common.{◌≡◌, ℕ, ◌+◌, ◌-◌, ◌<◌, ◌≤◌, Bool, true, false, nat_lt, if◌then◌else◌, List, [], ◌++◌, length, refl, ap, subst, sym, ◌∙◌, arith, Some, None, Result, Ok, Err}
use Rattle.std.proofs.lemmas.Bool.Decides.{nat_tests}
use Rattle.std.specs.Prelude.{IsErrAnd}
use Rattle.cv_pool.specs.KindTree.{KindTree}
use Rattle.cv_syntax.specs.declared.decls.Decl.{Decl}
use Rattle.cv_syntax.specs.declared.work.BuildError.TheVariants as build
use Rattle.cv_syntax.specs.declared.work.Game.{Game}
use Rattle.cv_syntax_trees.specs.Tree.{Tree}
use Rattle.cv_parse_notation.specs.declared.sign.Sign.{Sign}
use Rattle.cv_parse_grammar.specs.Names.{Uses, name_fault}
use Rattle.cv_parse_terms.specs.declared.lookahead.ReadError.{ReadError}
use Rattle.cv_parse_terms.specs.declared.lookahead.ReadError.TheVariants as reading
use Rattle.cv_parse_terms.specs.declared.trail.Trail.{Trail}
use Rattle.cv_parse_terms.specs.Gives.{Fails, uses_of}
use Rattle.cv_parse.specs.declared.error.ParseError.{ParseError}
use Rattle.cv_parse.specs.declared.error.ParseError.TheVariants.{Syntax, Nesting, NameTwice, NameUnknown, Build}
use Rattle.cv_parse.specs.Building.{Crowds, Misnames}
use Rattle.cv_parse.specs.Faults.{of_read}
use Rattle.cv_parse.specs.Parsed.{Refuses, of_name, sized}
use Rattle.cv_parse.specs.Games.{ReadsGame, declared_before, game_of, nodes_of, of_reading, read_process, roomed, sized_first, unless}
use Rattle.cv_parse.specs.Stages.{IsProcess}

pub back_to : (n k : ℕ) → k ≤ n → n - (n - k) ≡ k
back_to n k h = omega arith

-- an error that was passed on
pub passed_on : (read : Result Tree ParseError) (trees : List KindTree) (r : Result Game ParseError) (e : ParseError) → IsErrAnd r (λ x. x ≡ e) → Refuses e read → ReadsGame read trees r
passed_on read trees (Ok g) e i h = absurd i
passed_on read trees (Err x) e i h = subst (λ y. Refuses y read) (sym i) h

-- a stage that is refused, and what comes of it
pub refuses_on : {A B : Type 0} (e : ParseError) (r : Result A ParseError) (s : Result B ParseError) → (r ≡ Err e → s ≡ Err e) → Refuses e r → Refuses e s
refuses_on (Syntax k) r s f h = f h
refuses_on (Nesting k) r s f h = f h
refuses_on (NameTwice k) r s f h = f h
refuses_on (NameUnknown k) r s f h = f h
refuses_on (Build (build.Full n)) r s f h = f h
refuses_on (Build (build.Nodes n)) r s f h = f h
refuses_on (Build (build.Depth n)) r s f h = f h
refuses_on (Build build.OutOfMemory) r s f h = tt

-- a fault of the grammar
pub fault_refuses : (limit live n : ℕ) (before : Uses) (signs : List Sign) (e : ReadError) (read : _) → n ≡ length signs → Fails signs e read → Refuses (of_read e) (of_reading limit live n before read)
fault_refuses limit live n before signs (reading.Syntax k) read i h = ap (of_reading limit live n before) h.1 ∙ ap (λ m. let r : Result Tree ParseError = Err (Syntax m) in r) (ap (λ m. m - (length signs - k)) i ∙ back_to (length signs) k h.0)
fault_refuses limit live n before signs (reading.Nesting k) read i h = ap (of_reading limit live n before) h.1 ∙ ap (λ m. let r : Result Tree ParseError = Err (Nesting m) in r) (ap (λ m. m - (length signs - k)) i ∙ back_to (length signs) k h.0)
fault_refuses limit live n before signs reading.OutOfMemory read i h = tt

-- the room of a pool

full : (limit live need : ℕ) (t : Tree) → need ≡ nodes_of t → limit < live + need → roomed limit live t ≡ Err (Build (build.Full need))
full limit live need t e l =
    subst (λ m. (if nat_lt limit (live + m) then Err (Build (build.Full m)) else Ok t) ≡ Err (Build (build.Full need))) e
    (too_much (nat_lt limit (live + need)) (grind (arith, nat_tests)))
  where
    too_much : (b : Bool) → b ≡ true → (if b then Err (Build (build.Full need)) else Ok t) ≡ Err (Build (build.Full need))
    too_much true j = refl
    too_much false j = absurd (cc)

pub room : (limit live : ℕ) (t : Tree) → live + nodes_of t ≤ limit → roomed limit live t ≡ Ok t
room limit live t l = enough (nat_lt limit (live + nodes_of t)) (grind (arith, nat_tests))
  where
    enough : (b : Bool) → b ≡ false → (if b then Err (Build (build.Full (nodes_of t))) else Ok t) ≡ Ok t
    enough false j = refl
    enough true j = absurd (cc)

pub crowd_refuses : (limit live : ℕ) (t : Tree) (e : ParseError) → Crowds limit live (nodes_of t) e → Refuses e (roomed limit live t)
crowd_refuses limit live t (Syntax k) h = full limit live (nodes_of t) t refl h.1 ∙ ap Err (sym h.0)
crowd_refuses limit live t (Nesting k) h = full limit live (nodes_of t) t refl h.1 ∙ ap Err (sym h.0)
crowd_refuses limit live t (NameTwice k) h = full limit live (nodes_of t) t refl h.1 ∙ ap Err (sym h.0)
crowd_refuses limit live t (NameUnknown k) h = full limit live (nodes_of t) t refl h.1 ∙ ap Err (sym h.0)
crowd_refuses limit live t (Build (build.Full n)) h = full limit live (nodes_of t) t refl h.1 ∙ ap Err (sym h.0)
crowd_refuses limit live t (Build (build.Nodes n)) h = full limit live (nodes_of t) t refl h.1 ∙ ap Err (sym h.0)
crowd_refuses limit live t (Build (build.Depth n)) h = full limit live (nodes_of t) t refl h.1 ∙ ap Err (sym h.0)
crowd_refuses limit live t (Build build.OutOfMemory) h = tt

module _ (limit live : ℕ) (ds : List Decl) (signs : List Sign) where
  abbrev meant : Result Tree ParseError
  meant = game_of limit live ds signs

  pub read_refuses : (e : ReadError) → Fails signs e (read_process signs) → Refuses (of_read e) meant
  unfolding game_of
  read_refuses e h = fault_refuses limit live (length signs) (declared_before ds) signs e (read_process signs) refl h

  module _ (old new : Trail) (noted : uses_of old.uses.items ≡ declared_before ds) (d : IsProcess signs old new) where
    by_names : meant ≡ unless limit live (length signs) (name_fault (uses_of new.uses.items)) d.game
    unfolding game_of
    by_names =
        ap (of_reading limit live (length signs) (declared_before ds)) d.is
        ∙ ap (λ us. unless limit live (length signs) (name_fault us) d.game) (sym (d.noted ∙ ap (λ us. us ++ d.uses) noted))

    misnamed : (f : _) (e : ParseError) → name_fault (uses_of new.uses.items) ≡ Some f → e ≡ of_name (length signs) f → meant ≡ Err e
    misnamed f e i j = by_names ∙ (ap (λ o. unless limit live (length signs) o d.game) i ∙ ap Err (sym j))

    -- by the rules of names
    pub names_refuse : (e : ParseError) → Misnames (length signs) (uses_of new.uses.items) e → Refuses e meant
    names_refuse (Syntax k) h = misnamed h.0 (Syntax k) h.1 h.2
    names_refuse (Nesting k) h = misnamed h.0 (Nesting k) h.1 h.2
    names_refuse (NameTwice k) h = misnamed h.0 (NameTwice k) h.1 h.2
    names_refuse (NameUnknown k) h = misnamed h.0 (NameUnknown k) h.1 h.2
    names_refuse (Build (build.Full n)) h = misnamed h.0 (Build (build.Full n)) h.1 h.2
    names_refuse (Build (build.Nodes n)) h = misnamed h.0 (Build (build.Nodes n)) h.1 h.2
    names_refuse (Build (build.Depth n)) h = misnamed h.0 (Build (build.Depth n)) h.1 h.2
    names_refuse (Build build.OutOfMemory) h = tt

    module _ (named : name_fault (uses_of new.uses.items) ≡ None) where
      by_size : meant ≡ sized_first limit live d.game (sized d.game)
      by_size = by_names ∙ ap (λ o. unless limit live (length signs) o d.game) named

      -- by the size of the game
      pub size_refuses : (e : ParseError) → Refuses e (sized d.game) → Refuses e meant
      size_refuses e h = refuses_on e (sized d.game) meant (λ i. by_size ∙ ap (sized_first limit live d.game) i) h

      module _ (small : sized d.game ≡ Ok tt) where
        by_room : meant ≡ roomed limit live d.game
        by_room = by_size ∙ ap (sized_first limit live d.game) small

        -- by the room of the pool
        pub room_refuses : (e : ParseError) → Crowds limit live (nodes_of d.game) e → Refuses e meant
        room_refuses e h = refuses_on e (roomed limit live d.game) meant (λ i. by_room ∙ i) (crowd_refuses limit live d.game e h)

        -- what was built is what is read
        pub game_reads : (t : Tree) → live + nodes_of d.game ≤ limit → t ≡ d.game → meant ≡ Ok t
        game_reads t l e = by_room ∙ (room limit live d.game l ∙ ap Ok (sym e))

-- the parts that are there
pub only_parts : {A : Type 0} (new old parts : List A) → old ≡ [] → new ≡ old ++ parts → new ≡ parts
only_parts new old parts e h = h ∙ ap (λ l. l ++ parts) e
