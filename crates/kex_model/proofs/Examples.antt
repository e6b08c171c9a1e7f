-- The worked examples hold: what computes by its definition, and what holds of all paths by trying them all.
use Rattle.std.proofs.Common.{◌≡◌, ℕ, true, false, List, [], ◌∷◌, ◌++◌, ◌⊎◌, inl, inr, Some, None, refl, lit<, lit≤}
use Rattle.kex_code.specs.declared.symbol.Symbol.{Symbol}
use Rattle.kex_code.specs.declared.symbol.Symbol.TheVariants.{L, R, Byte}
use Rattle.kex_code.specs.Codes.{Before}
use Rattle.kex_model.specs.declared.frame.Frame.TheVariants.{Pending, EndOf}
use Rattle.kex_model.specs.Labelled.{Labelled, tip, fork}
use Rattle.kex_model.specs.Trees.{Tree, IsTree, lit, one_byte, seq, alt_left, alt_right, needed, again, end, mute, at_register, write_register, set_register, add_register, leaf, byte, pair, inner, turn, done, Parses, kind_at}
use Rattle.kex_model.specs.Places.{Place, moves, start_of, steps_of}
use Rattle.kex_model.specs.Survivors.{Agreed, HasTree}
use Rattle.kex_model.specs.Answers.{stopped_answer, code_at, HasParse, GreedyParse, Says, Viable, at_byte, bad_byte, too_long, cut_off, whole, still_open}
use Rattle.kex_model.specs.Laws.{StageAnswers}
use Rattle.kex_model.specs.Worked.{late, late_tree, ChoiceIsLate, twice, twice_left, twice_right, LeftIsGreedy, RegistersSwap, doubling, RegisterDoubles, MuteKeepsRegisters, RegisterIsWholeOrAsItWas, counted_loop, counted_turn, TurnsAreCounted, muted_twice, EndsAreOfNodes, breaks, breaks_tree, TextsBreakOff, stars, LimitStops, ShapeForks, two_stages, LastStopIsReported, loops, byte_turn, EmptyTurnsAreNoParses, LazyPrefersTheEnd, LazyTurnsAreCounted, nested, turn_of_byte, ReturnsAreNoParses}
use Rattle.kex_model.proofs.Shapes.{tree_agrees}
use Rattle.kex_model.proofs.AllPaths.{each_leads, leads_to_end, a_survivor, has_tree, not_viable, of_parse, longest_good, differ, once}
use Rattle.kex_model.proofs.Correspondence.{parse_once}

-- two alternatives that begin alike

abbrev late_c : Place
late_c = Pending 2 0 None ∷ []

abbrev late_b : Place
late_b = Pending 7 0 None ∷ []

abbrev late_forks : Labelled Symbol Place
late_forks = fork (L ∷ Byte 97 ∷ []) (tip late_c) (R ∷ Byte 97 ∷ []) (tip late_b)

late_has_tree : HasTree (moves late) (start_of late 10) (97 ∷ []) [] late_forks
late_has_tree =
    let l = each_leads late 30 (start_of late 10) (97 ∷ []) in
    has_tree late 10 30 (97 ∷ []) [] late_forks refl (
      a_survivor late 10 30 (97 ∷ []) refl l.0 refl (leads_to_end (each_leads late 30 late_c (99 ∷ [])).0 refl) (λ e. inl refl, (λ e. absurd (differ e refl), tt)),
      (a_survivor late 10 30 (97 ∷ []) refl l.1.0 refl (leads_to_end (each_leads late 30 late_b (98 ∷ [])).0 refl) (λ e. absurd (differ e refl), (λ e. inl refl, tt)), tt),
    )
    ((L ∷ Byte 97 ∷ [], inl refl), ((R ∷ Byte 97 ∷ [], inr (inl refl)), tt))
    ((Byte 97 ∷ [], refl), tt, (Byte 97 ∷ [], refl), tt)

late_parses : Parses late 10 late_tree (97 ∷ 98 ∷ [])
late_parses = record { tree = alt_right (seq lit (seq (one_byte refl) (one_byte refl))); text = refl }

late_agreed : Agreed (moves late) (start_of late 10) (97 ∷ []) []
late_agreed = tree_agrees (moves late) (start_of late 10) (97 ∷ []) [] late_forks late_has_tree

pub choice_is_late : ChoiceIsLate
choice_is_late = record {
  parses = late_parses;
  code = refl;
  means = refl;
  agreed = late_agreed;
  said = record { agreed = []; is_agreed = late_agreed; tree = late_tree; more = 98 ∷ []; parses = late_parses; begins = (R ∷ Byte 97 ∷ Byte 98 ∷ [], refl); said = refl };
}

-- registers

pub registers_swap : RegistersSwap
registers_swap = record {
  parses = record {
    tree = seq (at_register (needed (one_byte refl) (again tt (one_byte refl) end))) (seq (mute (one_byte refl)) (seq (at_register (needed (one_byte refl) (again tt (one_byte refl) end))) (seq write_register (seq lit write_register))));
    text = refl;
  };
  means = refl;
}

pub register_doubles : RegisterDoubles
register_doubles = let once : IsTree doubling (kind_at doubling 4) (pair (inner (byte 120)) leaf) = seq (mute (one_byte refl)) add_register in record {
  parses = record { tree = seq set_register (seq (again tt once (again tt once (again tt once end))) write_register); text = refl };
  means = refl;
}

pub mute_keeps_registers : MuteKeepsRegisters
mute_keeps_registers = record { parses = record { tree = seq (mute (at_register (one_byte refl))) write_register; text = refl }; means = refl }

pub register_is_whole_or_as_it_was : RegisterIsWholeOrAsItWas
register_is_whole_or_as_it_was = record {
  parses = record { tree = seq lit (seq (at_register (seq (one_byte refl) (seq lit (one_byte refl)))) (seq lit write_register)); text = refl };
  means = refl;
  begun = refl;
}

-- one text, with what its survivors agree on

abbrev breaks_b : Place
breaks_b = Pending 1 0 None ∷ Pending 2 0 None ∷ Pending 3 0 None ∷ []

abbrev breaks_c : Place
breaks_c = Pending 3 0 None ∷ []

abbrev breaks_agreed : List Symbol
breaks_agreed = Byte 97 ∷ L ∷ Byte 98 ∷ []

abbrev breaks_forks : Labelled Symbol Place
breaks_forks = fork (L ∷ []) (tip breaks_b) (R ∷ []) (tip breaks_c)

breaks_has_tree : HasTree (moves breaks) (start_of breaks 5) (97 ∷ 98 ∷ []) breaks_agreed breaks_forks
breaks_has_tree =
    let l = each_leads breaks 30 (start_of breaks 5) (97 ∷ 98 ∷ []) in
    has_tree breaks 5 30 (97 ∷ 98 ∷ []) breaks_agreed breaks_forks refl (
      a_survivor breaks 5 30 (97 ∷ 98 ∷ []) refl l.0 refl (leads_to_end (each_leads breaks 30 breaks_b (98 ∷ 99 ∷ [])).0 refl) (λ e. inl refl, (λ e. absurd (differ e refl), tt)),
      (a_survivor breaks 5 30 (97 ∷ 98 ∷ []) refl l.1.0 refl (leads_to_end (each_leads breaks 30 breaks_c (99 ∷ [])).0 refl) (λ e. absurd (differ e refl), (λ e. inl refl, tt)), tt),
    )
    ((Byte 97 ∷ L ∷ Byte 98 ∷ L ∷ [], inl refl), ((Byte 97 ∷ L ∷ Byte 98 ∷ R ∷ [], inr (inl refl)), tt))
    (([], refl), tt, ([], refl), tt)

breaks_is_agreed : Agreed (moves breaks) (start_of breaks 5) (97 ∷ 98 ∷ []) breaks_agreed
breaks_is_agreed = tree_agrees (moves breaks) (start_of breaks 5) (97 ∷ 98 ∷ []) breaks_agreed breaks_forks breaks_has_tree

breaks_parses : Parses breaks 5 breaks_tree (97 ∷ 98 ∷ 99 ∷ [])
breaks_parses = record { tree = seq (one_byte refl) (seq (again tt (one_byte refl) end) (one_byte refl)); text = refl }

breaks_says : Says breaks 5 (97 ∷ 98 ∷ []) (97 ∷ 98 ∷ [])
breaks_says = record { agreed = breaks_agreed; is_agreed = breaks_is_agreed; tree = breaks_tree; more = 99 ∷ []; parses = breaks_parses; begins = (R ∷ Byte 99 ∷ [], refl); said = refl }

breaks_no_parse : HasParse breaks 5 (97 ∷ 98 ∷ []) → ⊥
breaks_no_parse h = of_parse breaks 5 30 (97 ∷ 98 ∷ []) (λ c. ⊥) refl (λ e. differ e refl, (λ e. differ e refl, tt)) h.0 h.1

breaks_dead : Viable breaks 5 (97 ∷ 98 ∷ 120 ∷ []) → ⊥
breaks_dead = not_viable breaks 5 30 (97 ∷ 98 ∷ 120 ∷ []) refl

breaks_greedy : GreedyParse breaks 5 (97 ∷ 98 ∷ 99 ∷ []) breaks_tree
breaks_greedy = record {
  parses = parse_once breaks 5 (97 ∷ 98 ∷ 99 ∷ []) breaks_tree breaks_parses (once (start_of breaks 5 ∷ []) (steps_of breaks 5 (kind_at breaks 5) breaks_tree []) refl);
  least = λ s p. of_parse breaks 5 30 (97 ∷ 98 ∷ 99 ∷ []) (λ c. (code_at breaks 5 breaks_tree ≡ c) ⊎ Before (code_at breaks 5 breaks_tree) c) refl (λ e. inl refl, tt) s p;
}

pub texts_break_off : TextsBreakOff
texts_break_off = record {
  agreed = breaks_is_agreed;
  said = breaks_says;
  so_far = still_open (lit≤ tt) breaks_is_agreed.viable breaks_says;
  rejected = λ e. bad_byte (97 ∷ 98 ∷ []) breaks_dead (longest_good breaks 5 (97 ∷ 98 ∷ []) 120 [] breaks_is_agreed.viable breaks_dead) breaks_says;
  cut_off = cut_off (lit≤ tt) breaks_is_agreed.viable breaks_no_parse breaks_says;
  whole = whole (lit≤ tt) (breaks_tree, breaks_greedy, refl);
}

-- two parses of one text

abbrev twice_agreed : List Symbol
twice_agreed = L ∷ Byte 97 ∷ []

twice_before : Before (code_at twice 6 twice_left) (code_at twice 6 twice_right)
twice_before = ([], Byte 97 ∷ [], Byte 97 ∷ [], refl, refl)

twice_has_tree : HasTree (moves twice) (start_of twice 6) (97 ∷ []) twice_agreed (tip [])
twice_has_tree =
    let l = each_leads twice 30 (start_of twice 6) (97 ∷ []) in
    has_tree twice 6 30 (97 ∷ []) twice_agreed (tip []) refl
    (a_survivor twice 6 30 (97 ∷ []) refl l.0 refl (leads_to_end (each_leads twice 30 [] []).0 refl) (λ e. inl refl, (λ e. inr twice_before, tt)), tt)
    ((twice_agreed, inl refl), ((twice_agreed, inl refl), tt))
    tt

twice_is_agreed : Agreed (moves twice) (start_of twice 6) (97 ∷ []) twice_agreed
twice_is_agreed = tree_agrees (moves twice) (start_of twice 6) (97 ∷ []) twice_agreed (tip []) twice_has_tree

twice_parses : Parses twice 6 twice_left (97 ∷ [])
twice_parses = record { tree = alt_left (seq (one_byte refl) lit); text = refl }

twice_greedy : GreedyParse twice 6 (97 ∷ []) twice_left
twice_greedy = record {
  parses = parse_once twice 6 (97 ∷ []) twice_left twice_parses (once (start_of twice 6 ∷ []) (steps_of twice 6 (kind_at twice 6) twice_left []) refl);
  least = λ s p. of_parse twice 6 30 (97 ∷ []) (λ c. (code_at twice 6 twice_left ≡ c) ⊎ Before (code_at twice 6 twice_left) c) refl (λ e. inl refl, (λ e. inr twice_before, tt)) s p;
}

pub left_is_greedy : LeftIsGreedy
left_is_greedy = record {
  greedy = twice_greedy;
  other = record { tree = alt_right (seq (one_byte refl) lit); text = refl };
  before = twice_before;
  means = (twice_left, twice_greedy, refl);
  agreed = twice_is_agreed;
  said = record { agreed = twice_agreed; is_agreed = twice_is_agreed; tree = twice_left; more = []; parses = twice_parses; begins = ([], refl); said = refl };
}

-- counts

counted_once : IsTree counted_loop (kind_at counted_loop 3) counted_turn
counted_once = seq (mute (one_byte refl)) lit

pub turns_are_counted : TurnsAreCounted
turns_are_counted = record {
  two = record { tree = needed counted_once (needed counted_once end); text = refl };
  two_code = refl;
  three = record { tree = needed counted_once (needed counted_once (again tt counted_once end)); text = refl };
  three_code = refl;
  one = λ h. of_parse counted_loop 4 30 (120 ∷ []) (λ c. ⊥) refl (λ e. differ e refl, tt) h.0 h.1;
  four = λ h. of_parse counted_loop 4 30 (120 ∷ 120 ∷ 120 ∷ 120 ∷ []) (λ c. ⊥) refl tt h.0 h.1;
  needed = refl;
}

-- ends of groups

abbrev first_end : Place
first_end = Pending 1 0 None ∷ EndOf 4 ∷ []

abbrev second_end : Place
second_end = Pending 1 0 None ∷ EndOf 6 ∷ []

abbrev ends_fork : Labelled Symbol Place
ends_fork = fork (L ∷ Byte 97 ∷ []) (tip first_end) (R ∷ Byte 97 ∷ []) (tip second_end)

ends_have_tree : HasTree (moves muted_twice) (start_of muted_twice 7) (97 ∷ []) [] ends_fork
ends_have_tree =
    let l = each_leads muted_twice 30 (start_of muted_twice 7) (97 ∷ []) in
    has_tree muted_twice 7 30 (97 ∷ []) [] ends_fork refl (
      a_survivor muted_twice 7 30 (97 ∷ []) refl l.0 refl (leads_to_end (each_leads muted_twice 30 first_end (98 ∷ [])).0 refl) (λ e. inl refl, (λ e. absurd (differ e refl), tt)),
      (a_survivor muted_twice 7 30 (97 ∷ []) refl l.1.0 refl (leads_to_end (each_leads muted_twice 30 second_end (98 ∷ [])).0 refl) (λ e. absurd (differ e refl), (λ e. inl refl, tt)), tt),
    )
    ((L ∷ Byte 97 ∷ [], inl refl), ((R ∷ Byte 97 ∷ [], inr (inl refl)), tt))
    ((Byte 97 ∷ [], refl), tt, (Byte 97 ∷ [], refl), tt)

pub ends_are_of_nodes : EndsAreOfNodes
ends_are_of_nodes = tree_agrees (moves muted_twice) (start_of muted_twice 7) (97 ∷ []) [] ends_fork ends_have_tree

-- a star, and a limit

abbrev another : Place
another = Pending 0 0 None ∷ Pending 1 0 None ∷ []

abbrev star_fork : Labelled Symbol Place
star_fork = fork (L ∷ []) (tip another) (R ∷ []) (tip [])

star_has_tree : HasTree (moves stars) (start_of stars 1) [] [] star_fork
star_has_tree =
    let l = each_leads stars 30 (start_of stars 1) [] in
    has_tree stars 1 30 [] [] star_fork refl (
      a_survivor stars 1 30 [] refl l.0 refl (leads_to_end (each_leads stars 30 another (97 ∷ [])).1.0 refl) (λ e. inl refl, (λ e. absurd (differ e refl), tt)),
      (a_survivor stars 1 30 [] refl l.1.0 refl (leads_to_end (each_leads stars 30 [] []).0 refl) (λ e. absurd (differ e refl), (λ e. inl refl, tt)), tt),
    )
    ((L ∷ [], inl refl), ((R ∷ [], inr (inl refl)), tt))
    (([], refl), tt, ([], refl), tt)

pub shape_forks : ShapeForks
shape_forks = record { first = refl; shape = ([], star_fork, star_has_tree, refl) }

abbrev three : List ℕ
three = 97 ∷ 97 ∷ 97 ∷ []

abbrev three_agreed : List Symbol
three_agreed = L ∷ Byte 97 ∷ L ∷ Byte 97 ∷ L ∷ Byte 97 ∷ []

abbrev three_tree : Tree
three_tree = turn (byte 97) (turn (byte 97) (turn (byte 97) done))

three_has_tree : HasTree (moves stars) (start_of stars 1) three three_agreed star_fork
three_has_tree =
    let l = each_leads stars 30 (start_of stars 1) three in
    has_tree stars 1 30 three three_agreed star_fork refl (
      a_survivor stars 1 30 three refl l.0 refl (leads_to_end (each_leads stars 30 another (97 ∷ [])).1.0 refl) (λ e. inl refl, (λ e. absurd (differ e refl), tt)),
      (a_survivor stars 1 30 three refl l.1.0 refl (leads_to_end (each_leads stars 30 [] []).0 refl) (λ e. absurd (differ e refl), (λ e. inl refl, tt)), tt),
    )
    ((three_agreed ++ L ∷ [], inl refl), ((three_agreed ++ R ∷ [], inr (inl refl)), tt))
    (([], refl), tt, ([], refl), tt)

three_is_agreed : Agreed (moves stars) (start_of stars 1) three three_agreed
three_is_agreed = tree_agrees (moves stars) (start_of stars 1) three three_agreed star_fork three_has_tree

three_parses : Parses stars 1 three_tree three
three_parses = record { tree = again tt (one_byte refl) (again tt (one_byte refl) (again tt (one_byte refl) end)); text = refl }

three_greedy : GreedyParse stars 1 three three_tree
three_greedy = record {
  parses = parse_once stars 1 three three_tree three_parses (once (start_of stars 1 ∷ []) (steps_of stars 1 (kind_at stars 1) three_tree []) refl);
  least = λ s p. of_parse stars 1 30 three (λ c. (code_at stars 1 three_tree ≡ c) ⊎ Before (code_at stars 1 three_tree) c) refl (λ e. absurd (differ e refl), (λ e. inl refl, tt)) s p;
}

three_says : Says stars 1 three three
three_says = record { agreed = three_agreed; is_agreed = three_is_agreed; tree = three_tree; more = []; parses = three_parses; begins = (R ∷ [], refl); said = refl }

pub limit_stops : LimitStops
limit_stops = record {
  within = whole (lit≤ tt) (three_tree, three_greedy, refl);
  past = λ b e. too_long (lit< tt) three_is_agreed.viable three_says;
}

-- two stages

abbrev doubled_x : Place
doubled_x = Pending 0 0 None ∷ EndOf 1 ∷ Pending 2 0 None ∷ Pending 4 0 None ∷ []

abbrev xx : List ℕ
xx = 120 ∷ 120 ∷ []

abbrev xx_agreed : List Symbol
xx_agreed = L ∷ Byte 120 ∷ L ∷ Byte 120 ∷ []

abbrev xx_fork : Labelled Symbol Place
xx_fork = fork (L ∷ []) (tip doubled_x) (R ∷ []) (tip [])

xx_has_tree : HasTree (moves two_stages) (start_of two_stages 4) xx xx_agreed xx_fork
xx_has_tree =
    let l = each_leads two_stages 40 (start_of two_stages 4) xx in
    has_tree two_stages 4 40 xx xx_agreed xx_fork refl (
      a_survivor two_stages 4 40 xx refl l.0 refl (leads_to_end (each_leads two_stages 40 doubled_x (120 ∷ [])).1.0 refl) (λ e. inl refl, (λ e. absurd (differ e refl), tt)),
      (a_survivor two_stages 4 40 xx refl l.1.0 refl (leads_to_end (each_leads two_stages 40 [] []).0 refl) (λ e. absurd (differ e refl), (λ e. inl refl, tt)), tt),
    )
    ((xx_agreed ++ L ∷ [], inl refl), ((xx_agreed ++ R ∷ [], inr (inl refl)), tt))
    (([], refl), tt, ([], refl), tt)

xx_is_agreed : Agreed (moves two_stages) (start_of two_stages 4) xx xx_agreed
xx_is_agreed = tree_agrees (moves two_stages) (start_of two_stages 4) xx xx_agreed xx_fork xx_has_tree

abbrev yyyy : List ℕ
yyyy = 121 ∷ 121 ∷ 121 ∷ 121 ∷ []

xx_says : Says two_stages 4 xx yyyy
xx_says = let once : IsTree two_stages (kind_at two_stages 3) (pair (inner (byte 120)) leaf) = seq (mute (one_byte refl)) lit in record {
  agreed = xx_agreed;
  is_agreed = xx_is_agreed;
  tree = turn (pair (inner (byte 120)) leaf) (turn (pair (inner (byte 120)) leaf) done);
  more = [];
  parses = record { tree = again tt once (again tt once end); text = refl };
  begins = (R ∷ [], refl);
  said = refl;
}

xxq_dead : Viable two_stages 4 (120 ∷ 120 ∷ 113 ∷ []) → ⊥
xxq_dead = not_viable two_stages 4 40 (120 ∷ 120 ∷ 113 ∷ []) refl

first_answers : StageAnswers two_stages 4 99 (120 ∷ 120 ∷ 113 ∷ []) true (stopped_answer yyyy 2 at_byte)
first_answers = bad_byte xx xxq_dead (longest_good two_stages 4 xx 113 [] xx_is_agreed.viable xxq_dead) xx_says

abbrev triple_rest : Place
triple_rest = Pending 6 0 None ∷ Pending 7 0 None ∷ EndOf 10 ∷ Pending 11 0 None ∷ Pending 13 0 None ∷ []

abbrev yyyy_agreed : List Symbol
yyyy_agreed = L ∷ Byte 121 ∷ Byte 121 ∷ Byte 121 ∷ L ∷ Byte 121 ∷ []

yyyy_has_tree : HasTree (moves two_stages) (start_of two_stages 13) yyyy yyyy_agreed (tip triple_rest)
yyyy_has_tree =
    let l = each_leads two_stages 40 (start_of two_stages 13) yyyy in
    has_tree two_stages 13 40 yyyy yyyy_agreed (tip triple_rest) refl
    (a_survivor two_stages 13 40 yyyy refl l.0 refl (leads_to_end (each_leads two_stages 40 triple_rest (121 ∷ 121 ∷ [])).1.0 refl) (λ e. inl refl, tt), tt)
    ((yyyy_agreed, inl refl), tt)
    tt

yyyy_is_agreed : Agreed (moves two_stages) (start_of two_stages 13) yyyy yyyy_agreed
yyyy_is_agreed = tree_agrees (moves two_stages) (start_of two_stages 13) yyyy yyyy_agreed (tip triple_rest) yyyy_has_tree

abbrev triple : Tree
triple = pair (inner (pair (byte 121) (pair (byte 121) (byte 121)))) leaf

yyyy_says : Says two_stages 13 yyyy (122 ∷ [])
yyyy_says = let once : IsTree two_stages (kind_at two_stages 12) triple = seq (mute (seq (one_byte refl) (seq (one_byte refl) (one_byte refl)))) lit in record {
  agreed = yyyy_agreed;
  is_agreed = yyyy_is_agreed;
  tree = turn triple (turn triple done);
  more = 121 ∷ 121 ∷ [];
  parses = record { tree = again tt once (again tt once end); text = refl };
  begins = (Byte 121 ∷ Byte 121 ∷ R ∷ [], refl);
  said = refl;
}

y_has_tree : HasTree (moves two_stages) (start_of two_stages 14) (121 ∷ []) (Byte 121 ∷ []) (tip [])
y_has_tree =
    let l = each_leads two_stages 40 (start_of two_stages 14) (121 ∷ []) in
    has_tree two_stages 14 40 (121 ∷ []) (Byte 121 ∷ []) (tip []) refl
    (a_survivor two_stages 14 40 (121 ∷ []) refl l.0 refl (leads_to_end (each_leads two_stages 40 [] []).0 refl) (λ e. inl refl, tt), tt)
    ((Byte 121 ∷ [], inl refl), tt)
    tt

y_is_agreed : Agreed (moves two_stages) (start_of two_stages 14) (121 ∷ []) (Byte 121 ∷ [])
y_is_agreed = tree_agrees (moves two_stages) (start_of two_stages 14) (121 ∷ []) (Byte 121 ∷ []) (tip []) y_has_tree

y_says : Says two_stages 14 (121 ∷ []) (121 ∷ [])
y_says = record { agreed = Byte 121 ∷ []; is_agreed = y_is_agreed; tree = byte 121; more = []; parses = record { tree = one_byte refl; text = refl }; begins = ([], refl); said = refl }

yy_dead : Viable two_stages 14 (121 ∷ 121 ∷ []) → ⊥
yy_dead = not_viable two_stages 14 40 (121 ∷ 121 ∷ []) refl

pub last_stop_is_reported : LastStopIsReported
last_stop_is_reported = record {
  first_stops = (
    stopped_answer yyyy 2 at_byte,
    None,
    first_answers,
    (record { text = 122 ∷ []; ended = false; stop = None }, None, still_open (lit≤ tt) yyyy_is_agreed.viable yyyy_says, (refl, refl), refl),
    refl,
  );
  both_stop = (
    stopped_answer yyyy 2 at_byte,
    Some (record { stage = 2; stop = record { at = 1; why = at_byte } }),
    first_answers,
    (stopped_answer (121 ∷ []) 1 at_byte, None, bad_byte (121 ∷ []) (not_viable two_stages 14 40 yyyy refl) (longest_good two_stages 14 (121 ∷ []) 121 (121 ∷ 121 ∷ []) y_is_agreed.viable yy_dead) y_says, (refl, refl), refl),
    refl,
  );
}

-- a loop that reads nothing

pub empty_turns_are_no_parses : EmptyTurnsAreNoParses
empty_turns_are_no_parses = record {
  tree = record { tree = again tt (alt_left lit) end; text = refl };
  code = refl;
  written = refl;
  no_parse = λ h. h.path.once.1.1.0 (inr (inr (inl refl)));
  parse = parse_once loops 3 [] done (record { tree = end; text = refl }) (once (start_of loops 3 ∷ []) (steps_of loops 3 (kind_at loops 3) done []) refl);
  parse_code = refl;
  nothing = refl;
  after_byte =
      parse_once loops 3 (97 ∷ []) byte_turn (record { tree = again tt (alt_right (one_byte refl)) end; text = refl })
      (once (start_of loops 3 ∷ []) (steps_of loops 3 (kind_at loops 3) byte_turn []) refl);
  after_byte_code = refl;
  after_byte_written = refl;
}

-- laziness

pub lazy_prefers_the_end : LazyPrefersTheEnd
lazy_prefers_the_end = record { first = refl; none = refl; one = refl; tree = record { tree = again tt (one_byte refl) end; text = refl } }

pub lazy_turns_are_counted : LazyTurnsAreCounted
lazy_turns_are_counted = record {
  maybe_none = refl;
  maybe_one = refl;
  maybe_tree = record { tree = again tt (one_byte refl) end; text = refl };
  exact = refl;
  exact_tree = record { tree = needed (one_byte refl) (needed (one_byte refl) end); text = refl };
  needed = refl;
  wanted = refl;
  short = refl;
  short_tree = record { tree = needed (one_byte refl) end; text = refl };
  long = refl;
  long_tree = record { tree = needed (one_byte refl) (again tt (one_byte refl) end); text = refl };
}

-- returns

pub returns_are_no_parses : ReturnsAreNoParses
returns_are_no_parses = record {
  chosen = record { tree = again tt end end; text = refl };
  chosen_code = refl;
  by_choice = λ h. h.path.once.1.0 (inr (inl refl));
  behind = record { tree = again tt (again tt (one_byte refl) end) (again tt end end); text = refl };
  behind_code = refl;
  to_byte = λ h. h.path.once.1.1.1.0 (inr (inl refl));
  parse =
      parse_once nested 2 (97 ∷ []) turn_of_byte (record { tree = again tt (again tt (one_byte refl) end) end; text = refl })
      (once (start_of nested 2 ∷ []) (steps_of nested 2 (kind_at nested 2) turn_of_byte []) refl);
  parse_code = refl;
}
