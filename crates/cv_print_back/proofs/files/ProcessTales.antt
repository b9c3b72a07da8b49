-- The uses of names of processes, in which plain reads and channels get their indices.
use Rattle.std.proofs.Common.{◌≡◌, ℕ, List, [], ◌∷◌, ◌++◌, Option, refl, ap, sym, ◌∙◌, subst}
use Rattle.cv_syntax_trees.specs.Tree.{Tree, Empty, Node, chain, first, lone, names, second}
use Rattle.cv_syntax_trees.specs.declared.head.Head.TheVariants.{Stop, Yield, Par, Repl, In, Out, Event, New, Let, If, Find, Branch, Cons}
use Rattle.cv_parse_notation.specs.declared.sign.Mark.TheVariants as mark
use Rattle.cv_parse_grammar.specs.declared.role.Asked.TheVariants.{AChannel, AnEvent, AParam}
use Rattle.cv_parse_grammar.specs.declared.role.Role.TheVariants.{Asks, AsksIndex, BindsIndex, BindsVariable}
use Rattle.cv_parse_grammar.specs.Filled.{filled_at, on_channel}
use Rattle.cv_parse_grammar.specs.Names.{Uses}
use Rattle.cv_parse_grammar.specs.Processes.{indices_and, name_of}
use Rattle.cv_print_bytes.specs.terminals.Told.{Piece, arguments_told, bodies_told, branch_told, branches_told, cells_told, channel_told, condition_told, find_told, guard_told, indices_told, process_told, shown, step_told, term_told, terms_told, type_word, variables_told}
use Rattle.cv_print_back.proofs.files.Passing.{Passes, asks, binds_index_then, binds_it, under_more, use_of, variables_in}
use Rattle.cv_print_back.proofs.files.Saying.{InTurn, Run, Word}
use Rattle.cv_print_back.proofs.files.Tales.{definitions, told_append, told_by}
use Rattle.cv_print_back.proofs.files.TermTales.{Stands, empty_is}
use Rattle.cv_print_back.proofs.files.ListTales.{IsBound, channel_is_told, indices_are_written, indices_stay, names_define, names_filled}

-- what is told of each construct

par_told : (a b : Tree) (ws : Uses) → told_by (process_told (Node Par a b)) ws ≡ told_by (process_told a) (told_by (process_told b) ws)
unfolding process_told told_by
par_told a b ws = told_append (process_told a) _ ws ∙ ap (told_by (process_told a)) (told_append (process_told b) _ ws)

repl_told : (i n : ℕ) (a b : Tree) (ws : Uses) → told_by (process_told (Node (Repl i n) a b)) ws ≡ use_of BindsIndex i ∷ use_of (Asks AParam) n ∷ told_by (process_told b) ws
unfolding process_told told_by
repl_told i n a b ws = refl

in_told : (c : ℕ) (l v b : Tree) (ws : Uses) → told_by (process_told (Node (In c) (Node Cons l v) b)) ws ≡ told_by (channel_told c l) (told_by (variables_told v) (told_by (process_told b) ws))
unfolding process_told told_by
in_told c l v b ws =
    let rest = told_by (process_told b) ws in
    told_append (step_told (In c) (Node Cons l v)) (process_told b) ws
    ∙ (told_append (channel_told c l) _ rest ∙ ap (told_by (channel_told c l)) (told_append (variables_told v) _ rest))

out_told : (c : ℕ) (l v b : Tree) (ws : Uses) → told_by (process_told (Node (Out c) (Node Cons l v) b)) ws ≡ told_by (channel_told c l) (told_by (terms_told [] v) (told_by (process_told b) ws))
unfolding process_told told_by
out_told c l v b ws =
    let rest = told_by (process_told b) ws in
    told_append (step_told (Out c) (Node Cons l v)) (process_told b) ws
    ∙ (told_append (channel_told c l) _ rest ∙ ap (told_by (channel_told c l)) (told_append (terms_told [] v) _ rest))

arguments_are_told : (a : Tree) (ws : Uses) → told_by (arguments_told a) ws ≡ told_by (terms_told [] a) ws
unfolding terms_told told_by
arguments_are_told Empty ws = refl
arguments_are_told (Node h a b) ws = told_append (terms_told [] (Node h a b)) _ ws

event_told : (e : ℕ) (a b : Tree) (ws : Uses) → told_by (process_told (Node (Event e) a b)) ws ≡ use_of (Asks AnEvent) e ∷ told_by (terms_told [] a) (told_by (process_told b) ws)
unfolding process_told told_by
event_told e a b ws =
    let rest = told_by (process_told b) ws in
    told_append (step_told (Event e) a) (process_told b) ws
    ∙ ap (λ l. use_of (Asks AnEvent) e ∷ l) (told_append (arguments_told a) _ rest ∙ arguments_are_told a rest)

new_told : (x T : ℕ) (a b : Tree) (ws : Uses) → told_by (process_told (Node (New x T) a b)) ws ≡ use_of BindsVariable x ∷ told_by (type_word T) (told_by (process_told b) ws)
unfolding process_told told_by
new_told x T a b ws =
    let rest = told_by (process_told b) ws in
    told_append (step_told (New x T) a) (process_told b) ws
    ∙ ap (λ l. use_of BindsVariable x ∷ l) (told_append (type_word T) _ rest)

let_told : (x T : ℕ) (a b : Tree) (ws : Uses) → told_by (process_told (Node (Let x T) a b)) ws ≡ use_of BindsVariable x ∷ told_by (type_word T) (told_by (term_told a) (told_by (process_told b) ws))
unfolding process_told told_by
let_told x T a b ws =
    let rest = told_by (process_told b) ws in
    told_append (step_told (Let x T) a) (process_told b) ws
    ∙ ap (λ l. use_of BindsVariable x ∷ l) (told_append (type_word T) _ rest ∙ ap (told_by (type_word T)) (told_append (term_told a) _ rest))

if_told : (a s e b : Tree) (ws : Uses) → told_by (process_told (Node If a (Node Cons s (Node Cons e Empty)))) ws ≡ told_by (term_told a) (told_by (process_told s) (told_by (process_told e) ws))
unfolding process_told bodies_told told_by
if_told a s e b ws = told_append (term_told a) _ ws ∙ ap (told_by (term_told a)) (told_append (process_told s) _ ws ∙ ap (told_by (process_told s)) (told_append (process_told e) _ ws))

find_is_told : (l : ℕ) (a b : Tree) (ws : Uses) → told_by (process_told (Node (Find l) a b)) ws ≡ told_by (branches_told (find_told l) a) (told_by (process_told b) ws)
unfolding process_told told_by
find_is_told l a b ws = told_append (branches_told (find_told l) a) _ ws

condition_is_told : (a : Tree) (ws : Uses) → told_by (condition_told a) ws ≡ told_by (cells_told [] a) ws
unfolding cells_told told_by
condition_is_told Empty ws = refl
condition_is_told (Node h a b) ws = told_append (cells_told [] (Node h a b)) _ ws

-- a branch, whatever words it begins with
module _ (pre : List Piece) (quiet : (ws : Uses) → told_by pre ws ≡ ws) where
  arm_told : (l c m b : Tree) (ws : Uses) → told_by (branch_told pre (Node Branch l (Node Cons c (Node Cons m b)))) ws ≡ told_by (indices_told l) (told_by (cells_told [] c) (told_by (term_told m) (told_by (process_told b) ws)))
  unfolding branch_told told_by
  arm_told l c m b ws =
      let rest = told_by (process_told b) ws in
      told_append (guard_told pre l c m) (process_told b) ws
      ∙ (told_append pre _ rest ∙ (quiet _
      ∙ (told_append (indices_told l) _ rest ∙ ap (told_by (indices_told l)) (told_append (condition_told c) _ rest
      ∙ (condition_is_told c _ ∙ ap (told_by (cells_told [] c)) (told_append (term_told m) _ rest))))))

  branches_are_told : (a b : Tree) (ws : Uses) → told_by (branches_told pre (Node Cons a b)) ws ≡ told_by (branch_told pre a) (told_by (branches_told (shown mark.Orfind) b) ws)
  unfolding branches_told told_by
  branches_are_told a b ws = told_append (branch_told pre a) _ ws

module _ (all : Uses) (sites : ℕ → Option ℕ) where
  abbrev pub IsProcess : Run Tree
  IsProcess t us vs = Stands all sites process_told t us vs

  pub stop_is : (us vs : Uses) → us ≡ vs → IsProcess (lone Stop) us vs
  unfolding filled_at definitions process_told told_by
  stop_is us vs s = record { defines = ap variables_in (sym s); passes = λ now ws g. subst (λ z. Passes all now z ws) (sym s) g }

  pub yield_is : (us vs : Uses) → us ≡ vs → IsProcess (lone Yield) us vs
  unfolding filled_at definitions process_told told_by
  yield_is us vs s = record { defines = ap variables_in (sym s); passes = λ now ws g. subst (λ z. Passes all now z ws) (sym s) g }

  pub par_is : (a b : Tree) (us ms vs : Uses) → IsProcess a us ms → IsProcess b ms vs → IsProcess (Node Par a b) us vs
  unfolding filled_at definitions
  par_is a b us ms vs p q = record {
    defines = ap (definitions a) q.defines ∙ p.defines;
    passes = λ now ws g. subst (λ z. Passes all now us z) (sym (par_told (filled_at sites now a) (filled_at sites now b) ws)) (p.passes now _ (q.passes now ws g));
  }

  pub repl_is : (i n : ℕ) (b : Tree) (us ms ns vs : Uses) → Word BindsIndex i us ms → Word (Asks AParam) n ms ns → IsProcess b ns vs → IsProcess (Node (Repl i n) Empty b) us vs
  unfolding filled_at definitions
  repl_is i n b us ms ns vs w v p = record {
    defines = p.defines ∙ sym (ap variables_in w.1 ∙ ap variables_in v.1);
    passes = λ now ws g.
        subst (λ z. Passes all now us z) (sym (repl_told i n Empty (filled_at sites (now ++ i ∷ []) b) ws))
        (binds_index_then all w (asks all v (p.passes (now ++ i ∷ []) ws (under_more all (i ∷ []) g))));
  }

  -- a channel with its indices, and what goes over it

  pub record HasIndices (l : Tree) (us vs : Uses) : Type 0 where
    pub list : List ℕ
    pub is : l ≡ names list
    pub asked : InTurn (Word AsksIndex) list us vs

  pub record GoesOver (T : Tree → List Piece) (t : Tree) (us vs : Uses) : Type 0 where
    pub behind_name : Uses
    pub behind_indices : Uses
    pub channel : Word (Asks AChannel) (name_of t) us behind_name
    pub indices : HasIndices (first t) behind_name behind_indices
    pub message : Stands all sites T (second t) behind_indices vs

  asked_variables : (js : List ℕ) (us vs : Uses) → InTurn (Word AsksIndex) js us vs → variables_in vs ≡ variables_in us
  asked_variables [] us vs e = ap variables_in (sym e)
  asked_variables (j ∷ js) us vs w = asked_variables js w.0 vs w.2 ∙ sym (ap variables_in w.1.1)

  over_defines : (T : Tree → List Piece) (p t : Tree) (us ms vs : Uses) → GoesOver T p us ms → IsProcess t ms vs → definitions (first p) (definitions (second p) (definitions t (variables_in vs))) ≡ variables_in us
  over_defines T p t us ms vs w q =
      ap (λ z. definitions z (definitions (second p) (definitions t (variables_in vs)))) w.indices.is
      ∙ (names_define w.indices.list _
      ∙ (ap (definitions (second p)) q.defines
      ∙ (w.message.defines ∙ (asked_variables w.indices.list w.behind_name w.behind_indices w.indices.asked ∙ sym (ap variables_in w.channel.1)))))

  at_indices : (c : ℕ) (js now : List ℕ) (us ms ns zs : Uses) → Word (Asks AChannel) c us ms → InTurn (Word AsksIndex) js ms ns → Passes all now ns zs → Passes all now us (told_by (channel_told c (names js)) zs)
  at_indices c js now us ms ns zs w v g = subst (λ z. Passes all now us z) (sym (channel_is_told c js zs)) (asks all w (indices_stay all sites js now ms ns zs v g))

  at_current : (c : ℕ) (now : List ℕ) (us ms zs : Uses) → Word (Asks AChannel) c us ms → Passes all now ms zs → Passes all now us (told_by (channel_told c (names now)) zs)
  at_current c now us ms zs w g = subst (λ z. Passes all now us z) (sym (channel_is_told c now zs)) (asks all w (indices_are_written all sites now ms zs g))

  input_passes : (c : ℕ) (js now : List ℕ) (v t : Tree) (us ms ns ws : Uses) → Word (Asks AChannel) c us ms → InTurn (Word AsksIndex) js ms ns → Passes all now ns (told_by (variables_told v) (told_by (process_told t) ws)) → Passes all now us (told_by (process_told (Node (In c) (on_channel (In c) now (Node Cons (names js) v)) t)) ws)
  input_passes c [] now v t us ms ns ws w e g = subst (λ z. Passes all now us z) (sym (in_told c (names now) v t ws)) (at_current c now us ms _ w (subst (λ z. Passes all now z (told_by (variables_told v) (told_by (process_told t) ws))) (sym e) g))
  input_passes c (j ∷ js) now v t us ms ns ws w e g = subst (λ z. Passes all now us z) (sym (in_told c (names (j ∷ js)) v t ws)) (at_indices c (j ∷ js) now us ms ns _ w e g)

  output_passes : (c : ℕ) (js now : List ℕ) (v t : Tree) (us ms ns ws : Uses) → Word (Asks AChannel) c us ms → InTurn (Word AsksIndex) js ms ns → Passes all now ns (told_by (terms_told [] v) (told_by (process_told t) ws)) → Passes all now us (told_by (process_told (Node (Out c) (on_channel (Out c) now (Node Cons (names js) v)) t)) ws)
  output_passes c [] now v t us ms ns ws w e g = subst (λ z. Passes all now us z) (sym (out_told c (names now) v t ws)) (at_current c now us ms _ w (subst (λ z. Passes all now z (told_by (terms_told [] v) (told_by (process_told t) ws))) (sym e) g))
  output_passes c (j ∷ js) now v t us ms ns ws w e g = subst (λ z. Passes all now us z) (sym (out_told c (names (j ∷ js)) v t ws)) (at_indices c (j ∷ js) now us ms ns _ w e g)

  pub in_is : (p t : Tree) (us ms vs : Uses) → GoesOver variables_told p us ms → IsProcess t ms vs → IsProcess (Node (In (name_of p)) (indices_and p) t) us vs
  unfolding filled_at definitions
  in_is p t us ms vs w q = record {
    defines = over_defines variables_told p t us ms vs w q;
    passes = λ now ws g.
        let v = filled_at sites now (second p) in
        let b = filled_at sites now t in
        let is : filled_at sites now (first p) ≡ names w.indices.list = ap (filled_at sites now) w.indices.is ∙ names_filled sites now w.indices.list in
        subst (λ z. Passes all now us (told_by (process_told (Node (In (name_of p)) (on_channel (In (name_of p)) now (Node Cons z v)) b)) ws)) (sym is)
        (input_passes (name_of p) w.indices.list now v b us w.behind_name w.behind_indices ws w.channel w.indices.asked (w.message.passes now _ (q.passes now ws g)));
  }

  pub out_is : (p t : Tree) (us ms vs : Uses) → GoesOver (terms_told []) p us ms → IsProcess t ms vs → IsProcess (Node (Out (name_of p)) (indices_and p) t) us vs
  unfolding filled_at definitions
  out_is p t us ms vs w q = record {
    defines = over_defines (terms_told []) p t us ms vs w q;
    passes = λ now ws g.
        let v = filled_at sites now (second p) in
        let b = filled_at sites now t in
        let is : filled_at sites now (first p) ≡ names w.indices.list = ap (filled_at sites now) w.indices.is ∙ names_filled sites now w.indices.list in
        subst (λ z. Passes all now us (told_by (process_told (Node (Out (name_of p)) (on_channel (Out (name_of p)) now (Node Cons z v)) b)) ws)) (sym is)
        (output_passes (name_of p) w.indices.list now v b us w.behind_name w.behind_indices ws w.channel w.indices.asked (w.message.passes now _ (q.passes now ws g)));
  }

  -- output processes

  pub event_is : (e : ℕ) (a b : Tree) (us ms ns vs : Uses) → Word (Asks AnEvent) e us ms → Stands all sites (terms_told []) a ms ns → IsProcess b ns vs → IsProcess (Node (Event e) a b) us vs
  unfolding filled_at definitions
  event_is e a b us ms ns vs w p q = record {
    defines = ap (definitions a) q.defines ∙ (p.defines ∙ sym (ap variables_in w.1));
    passes = λ now ws g. subst (λ z. Passes all now us z) (sym (event_told e (filled_at sites now a) (filled_at sites now b) ws)) (asks all w (p.passes now _ (q.passes now ws g)));
  }

  pub new_is : (x T : ℕ) (b : Tree) (us ms ns vs : Uses) → Word BindsVariable x us ms → IsBound all sites type_word T ms ns → IsProcess b ns vs → IsProcess (Node (New x T) Empty b) us vs
  unfolding filled_at definitions
  new_is x T b us ms ns vs w p q = record {
    defines = ap (λ l. x ∷ l) (q.defines ∙ p.same) ∙ sym (ap variables_in w.1);
    passes = λ now ws g. subst (λ z. Passes all now us z) (sym (new_told x T Empty (filled_at sites now b) ws)) (binds_it all w (p.passes now _ (q.passes now ws g)));
  }

  pub let_is : (x T : ℕ) (m b : Tree) (us ms ns os vs : Uses) → Word BindsVariable x us ms → IsBound all sites type_word T ms ns → Stands all sites term_told m ns os → IsProcess b os vs → IsProcess (Node (Let x T) m b) us vs
  unfolding filled_at definitions
  let_is x T m b us ms ns os vs w p r q = record {
    defines = ap (λ l. x ∷ l) (ap (definitions m) q.defines ∙ (r.defines ∙ p.same)) ∙ sym (ap variables_in w.1);
    passes = λ now ws g. subst (λ z. Passes all now us z) (sym (let_told x T (filled_at sites now m) (filled_at sites now b) ws)) (binds_it all w (p.passes now _ (r.passes now _ (q.passes now ws g))));
  }

  pub if_is : (c t e : Tree) (us ms ns vs : Uses) → Stands all sites term_told c us ms → IsProcess t ms ns → IsProcess e ns vs → IsProcess (Node If c (chain (t ∷ (e ∷ [])))) us vs
  unfolding filled_at definitions
  if_is c t e us ms ns vs p q r = record {
    defines = ap (definitions c) (ap (definitions t) r.defines ∙ q.defines) ∙ p.defines;
    passes = λ now ws g. subst (λ z. Passes all now us z) (sym (if_told (filled_at sites now c) (filled_at sites now t) (filled_at sites now e) Empty ws)) (p.passes now _ (q.passes now _ (r.passes now ws g)));
  }

  -- branches

  pub record IsArm (t : Tree) (us vs : Uses) : Type 0 where
    pub indices : Tree
    pub cells : Tree
    pub term : Tree
    pub body : Tree
    pub is : t ≡ Node Branch indices (Node Cons cells (Node Cons term body))
    pub behind_indices : Uses
    pub behind_cells : Uses
    pub behind_term : Uses
    pub bound : Stands all sites indices_told indices us behind_indices
    pub defined : Stands all sites (cells_told []) cells behind_indices behind_cells
    pub asked : Stands all sites term_told term behind_cells behind_term
    pub goes_on : IsProcess body behind_term vs

  module _ (pre : List Piece) (quiet : (ws : Uses) → told_by pre ws ≡ ws) where
    arm_is : (t : Tree) (us vs : Uses) → IsArm t us vs → Stands all sites (branch_told pre) t us vs
    unfolding filled_at definitions
    arm_is t us vs w = subst (λ z. Stands all sites (branch_told pre) z us vs) (sym w.is) (record {
      defines = ap (definitions w.indices) (ap (definitions w.cells) (ap (definitions w.term) w.goes_on.defines ∙ w.asked.defines) ∙ w.defined.defines) ∙ w.bound.defines;
      passes = λ now ws g.
          subst (λ z. Passes all now us z) (sym (arm_told pre quiet (filled_at sites now w.indices) (filled_at sites now w.cells) (filled_at sites now w.term) (filled_at sites now w.body) ws))
          (w.bound.passes now _ (w.defined.passes now _ (w.asked.passes now _ (w.goes_on.passes now ws g))));
    })

  further_arms : (l : List Tree) (us vs : Uses) → InTurn IsArm l us vs → Stands all sites (branches_told (shown mark.Orfind)) (chain l) us vs
  unfolding filled_at definitions branches_told told_by
  further_arms [] us vs e = empty_is all sites (branches_told (shown mark.Orfind)) (λ ws. refl) us vs e
  further_arms (t ∷ l) us vs w =
      let p = arm_is (shown mark.Orfind) (λ ws. refl) t us w.0 w.1 in
      let q = further_arms l w.0 vs w.2 in
      record {
        defines = ap (definitions t) q.defines ∙ p.defines;
        passes = λ now ws g. subst (λ z. Passes all now us z) (sym (branches_are_told (shown mark.Orfind) (λ ws. refl) (filled_at sites now t) (filled_at sites now (chain l)) ws)) (p.passes now _ (q.passes now ws g));
      }

  arms : (k : ℕ) (l : List Tree) (us vs : Uses) → InTurn IsArm l us vs → Stands all sites (branches_told (find_told k)) (chain l) us vs
  unfolding filled_at definitions branches_told told_by
  arms k [] us vs e = empty_is all sites (branches_told (find_told k)) (λ ws. refl) us vs e
  arms k (t ∷ l) us vs w =
      let p = arm_is (find_told k) (λ ws. refl) t us w.0 w.1 in
      let q = further_arms l w.0 vs w.2 in
      record {
        defines = ap (definitions t) q.defines ∙ p.defines;
        passes = λ now ws g. subst (λ z. Passes all now us z) (sym (branches_are_told (find_told k) (λ ws. refl) (filled_at sites now t) (filled_at sites now (chain l)) ws)) (p.passes now _ (q.passes now ws g));
      }

  pub find_is : (k : ℕ) (l : List Tree) (b : Tree) (us ms vs : Uses) → InTurn IsArm l us ms → IsProcess b ms vs → IsProcess (Node (Find k) (chain l) b) us vs
  unfolding filled_at definitions
  find_is k l b us ms vs w q =
      let p = arms k l us ms w in
      record {
        defines = ap (definitions (chain l)) q.defines ∙ p.defines;
        passes = λ now ws g. subst (λ z. Passes all now us z) (sym (find_is_told k (filled_at sites now (chain l)) (filled_at sites now b) ws)) (p.passes now _ (q.passes now ws g));
      }
