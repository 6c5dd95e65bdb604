-- Readings of document 01 that N1 to N12 do not all tell apart: a small case for each, in the form of the nights on paper, and one
-- check of them. First those that were seen to go wrong, then a case for each clause of specs/Moves, move by move, and for the rows of specs/Kinds:
-- docs/DECISIONS.md has for every clause a change of it and the case that turns false. The files of must-fail/ make some of the wrong readings.
use mathlib.Core.List.{List, [], ◌∷◌, ◌++◌, map}
use Rattle.std.specs.Prelude.{ℕ, T}
use Rattle.cows.specs.Basics.{every}
use Rattle.cows.specs.Terms.{kill, invoke, receive, Term, leaf, under, size}
use Rattle.cows.specs.Step.{Reply}
use Rattle.cows.specs.Papers.{n, v, x, k, ◌∣◌, ◌⊕◌, 𝟘, po!, qo!, po?then, po?, stop, wait_for, new, ⟦◌⟧, rep, killing, meeting, expiry, time, unfolding_at, float, says, Night, right_night, open_all}

-- further variables and a second label
abbrev y : ℕ
y = 32769

abbrev z : ℕ
z = 32770

abbrev j : ℕ
j = 49153

-- p·o!⟨ws⟩, p·o?⟨ws⟩.t
abbrev invoke! : ℕ → ℕ → List ℕ → Term
invoke! p o ws = leaf (invoke p o ws)

abbrev receive? : ℕ → ℕ → List ℕ → Term → Term
receive? p o ws t = under (receive p o ws) t

-- the parts of the tables below that recur
abbrev pair : ℕ → ℕ → Term
pair a b = new a (new b (invoke! 1 2 (a ∷ b ∷ [])))

abbrev one_of_each : Term
one_of_each = po! v ∣ po? v ∣ wait_for 0 𝟘 ∣ ⟦ rep 𝟘 ⟧ ∣ new k stop ∣ 𝟘

abbrev offers : ℕ → Term
offers w = po! v ∣ invoke! 1 2 (v ∷ v ∷ v ∷ []) ∣ invoke! 3 2 (v ∷ v ∷ []) ∣ invoke! 1 3 (v ∷ v ∷ []) ∣ invoke! 1 2 (v ∷ n ∷ []) ∣ invoke! 1 2 (w ∷ v ∷ [])

abbrev others : Term
others = po? y ∣ receive? 3 2 (v ∷ []) 𝟘 ∣ receive? 1 3 (v ∷ []) 𝟘 ∣ po? n ∣ receive? 1 2 [] 𝟘 ∣ wait_for 1 (po? v)

abbrev uses : ℕ → Term
uses w = invoke! w w (v ∷ w ∷ []) ∣ ⟦ qo! w ⟧ ∣ rep (new n (qo! w)) ∣ wait_for 7 (qo! w ∣ receive? 3 3 (w ∷ []) (qo! w))

abbrev three : ℕ → ℕ → ℕ → Term
three a b c = new a (new b (new c (leaf (kill c) ∣ invoke! b a [])))

abbrev body : ℕ → ℕ → Term
body a b = new a (new b ⟦ receive? a 7 (b ∷ a ∷ []) (wait_for 6 (rep (invoke! b a (n ∷ []))) ∣ (receive? 7 a [] 𝟘 ⊕ 𝟘)) ⟧)

abbrev unlike : Term
unlike =
    invoke! x 3 (v ∷ v ∷ v ∷ v ∷ []) ∣ invoke! 3 x (v ∷ v ∷ v ∷ v ∷ []) ∣ invoke! 3 2 (v ∷ v ∷ v ∷ x ∷ []) ∣ invoke! 1 2 (v ∷ v ∷ x ∷ v ∷ []) ∣ invoke! 1 2 (x ∷ [])
    ∣ invoke! 3 2 (n ∷ []) ∣ invoke! 1 3 (n ∷ v ∷ v ∷ v ∷ []) ∣ invoke! 1 2 (n ∷ v ∷ v ∷ [])
    ∣ invoke! 1 2 (n ∷ n ∷ n ∷ n ∷ []) ∣ invoke! 1 2 (v ∷ n ∷ n ∷ n ∷ []) ∣ invoke! 1 2 (v ∷ v ∷ n ∷ n ∷ [])

-- A night that is not refused whole: the table, the moves, their replies, the table left, the total.
abbrev night : Term → List (List ℕ) → List Reply → Term → List ℕ → Night
night s ms rs t c = record { begins = s; own = says 0 0 (size t); moves = ms; replies = rs; ends = t; total = c }

-- one move, which is accepted; moves that are all refused, and a table that stays, with its load
abbrev accepted : Term → List ℕ → Term → List ℕ → Night
accepted s m t c = night s (m ∷ []) (says 0 0 (size t) ∷ []) t c

abbrev refused : Term → List (List ℕ) → List Reply → ℕ → Night
refused t ms rs l = night t ms rs t (0 ∷ 0 ∷ 0 ∷ l ∷ [])

-- moves on one_of_each that name a record of another kind than they ask for: each is 11 at that place
abbrev none_there : (ℕ → List ℕ) → List ℕ → Night
none_there m ps = refused one_of_each (map m ps) (map (λ p. says 11 p 16) ps) 4

-- a choice of a term that is no guard: the table is refused
abbrev unguarded : Term → Night
unguarded s = record { begins = s ⊕ 𝟘; own = says 5 1 0; moves = []; replies = []; ends = 𝟘; total = [] }

pub misreadings : List Night
misreadings =
    -- M1: 15 counts a receive that is itself held back
    refused (new x (po! v ∣ po? x ∣ new k (stop ∣ po? v))) (meeting 4 2 ∷ []) (says 15 9 11 ∷ []) 4
    -- M2: 15 compares the variables of the patterns: those of a, also where their delimitation does not enclose the other receive
    ∷ refused (new x (po! v ∣ po? x) ∣ po? v) (meeting 4 3 ∷ []) (says 15 6 8 ∷ []) 3
    -- M3: and those of the other receive, also where their delimitation does not enclose the parties
    ∷ accepted (new x (po! v ∣ po? x ∣ new y (po? y))) (meeting 4 2) (𝟘 ∣ 𝟘 ∣ new y (po? y)) (1 ∷ 0 ∷ 0 ∷ 1 ∷ [])
    -- M4: a protection around the kill shelters nothing beside it
    ∷ accepted (new k (⟦ stop ∣ po! v ⟧ ∣ qo! v)) (killing 4) (new k (⟦ 𝟘 ∣ 𝟘 ⟧ ∣ 𝟘)) (0 ∷ 1 ∷ 0 ∷ 0 ∷ [])
    -- M5: a kill next door holds nothing back
    ∷ accepted (new k stop ∣ po? v ∣ po! v) (meeting 4 6) (new k stop ∣ 𝟘 ∣ 𝟘) (1 ∷ 0 ∷ 0 ∷ 1 ∷ [])
    -- M6: a variable is replaced throughout its delimitation, not only in the continuation
    ∷ accepted (new x (po! v ∣ po?then x (qo! x) ∣ qo! x ∣ rep ⟦ po? x ⟧)) (meeting 4 2) (𝟘 ∣ qo! v ∣ qo! v ∣ rep ⟦ po? v ⟧) (1 ∷ 0 ∷ 0 ∷ 3 ∷ [])
    -- M7: 14 looks at the scopes of the invoke too
    ∷ refused (new k (stop ∣ po! v) ∣ po? v) (meeting 5 4 ∷ []) (says 14 1 7 ∷ []) 3
    -- M8: and at a ready kill under a replication
    ∷ refused (new k (rep stop ∣ po? v) ∣ po! v) (meeting 5 7 ∷ []) (says 14 1 8 ∷ []) 3
    -- M9: time does not lower waits under a replication
    ∷ night (rep (wait_for 5 𝟘) ∣ wait_for 5 𝟘) (time 3 ∷ []) (says 0 0 6 ∷ []) (rep (wait_for 5 𝟘) ∣ wait_for 2 𝟘) (0 ∷ 0 ∷ 0 ∷ 2 ∷ [])
    -- M10: a live wait that holds less than the time refuses nothing, falls to 0 and not round, and the others fall by the time all the same
    ∷ accepted (wait_for 0 𝟘 ∣ wait_for 9 𝟘 ∣ wait_for 5 𝟘 ∣ wait_for 4 𝟘) (time 5) (wait_for 0 𝟘 ∣ wait_for 4 𝟘 ∣ wait_for 0 𝟘 ∣ wait_for 0 𝟘) (0 ∷ 0 ∷ 0 ∷ 4 ∷ [])
    -- M11: 7 finds a use that stands before the delimitation
    ∷ record { begins = invoke! n 2 [] ∣ new n 𝟘; own = says 7 1 0; moves = []; replies = []; ends = invoke! n 2 [] ∣ new n 𝟘; total = [] }
    -- M12: atoms are renamed in record order
    ∷ accepted (rep (pair 3 n)) (unfolding_at 0) (pair v 6 ∣ rep (pair 3 n)) (0 ∷ 0 ∷ 0 ∷ 2 ∷ [])
    -- M13: the whole choice goes, not the inner one
    ∷ accepted (po? v ⊕ wait_for 0 (po! v) ⊕ wait_for 7 𝟘) (expiry 4) (po! v) (0 ∷ 0 ∷ 1 ∷ 1 ∷ [])
    -- Live records (11).
    -- M14: nothing is live under a replication, behind a receive or behind a wait, and no record stands behind the last
    ∷ refused (new k (rep (stop ∣ rep (new n (po! n)) ∣ new 3 𝟘) ∣ po?then v stop ∣ wait_for 1 (stop ∣ wait_for 0 𝟘) ∣ stop))
    (killing 4 ∷ killing 13 ∷ killing 17 ∷ killing 21 ∷ expiry 18 ∷ unfolding_at 6 ∷ float 9 ∷ [])
    (says 11 4 21 ∷ says 11 13 21 ∷ says 11 17 21 ∷ says 11 21 21 ∷ says 11 18 21 ∷ says 11 6 21 ∷ says 11 9 21 ∷ []) 8
    -- M15: of a meeting a is looked at before b; a receive is live in a protection, a delimitation and a choice
    ∷ night (rep (po? v ∣ po! v) ∣ ⟦ new n (po? v ⊕ wait_for 1 𝟘) ⟧ ∣ po! v) (meeting 3 5 ∷ meeting 10 5 ∷ meeting 14 10 ∷ meeting 10 14 ∷ [])
    (says 11 3 15 ∷ says 11 5 15 ∷ says 11 14 15 ∷ says 0 0 11 ∷ []) (rep (po? v ∣ po! v) ∣ ⟦ new n 𝟘 ⟧ ∣ 𝟘) (1 ∷ 0 ∷ 0 ∷ 2 ∷ [])
    -- M16: a kill asks for a kill: 11 of nil, an invoke, a prefix, a parallel
    ∷ none_there killing (15 ∷ 1 ∷ 3 ∷ 0 ∷ [])
    -- M17: a meeting asks for a receive: 11 of each other prefix, and of what is none
    ∷ none_there (λ a. meeting a 1) (6 ∷ 9 ∷ 13 ∷ 10 ∷ 15 ∷ 0 ∷ [])
    -- M18: and for an invoke: 11 of nil, a kill, a prefix, a parallel
    ∷ none_there (meeting 3) (15 ∷ 14 ∷ 3 ∷ 0 ∷ [])
    -- M19: a timeout asks for a wait
    ∷ none_there expiry (3 ∷ 9 ∷ 13 ∷ 10 ∷ 15 ∷ 0 ∷ [])
    -- M20: an unfolding asks for a replication
    ∷ none_there unfolding_at (3 ∷ 6 ∷ 9 ∷ 13 ∷ 15 ∷ 0 ∷ [])
    -- M21: a floating asks for a delimitation
    ∷ none_there float (3 ∷ 6 ∷ 9 ∷ 10 ∷ 15 ∷ 0 ∷ [])
    -- Kill.
    -- M22: halting makes nil of invokes and kills, and of whole receives, waits and choices
    ∷ accepted (new k (stop ∣ po! v ∣ stop ∣ po?then v ⟦ qo! v ⟧ ∣ wait_for 3 ⟦ qo! v ⟧ ∣ (po? v ⊕ wait_for 1 𝟘))) (killing 2) (new k (𝟘 ∣ 𝟘 ∣ 𝟘 ∣ 𝟘 ∣ 𝟘 ∣ 𝟘))
    (0 ∷ 1 ∷ 0 ∷ 0 ∷ [])
    -- M23: it goes through delimitations and replications, which stay, and keeps a protection whole; the kill stands on the right
    ∷ accepted (new k ((new n (new x (po! x ∣ ⟦ qo! n ⟧)) ∣ rep (new j (⟦ stop ⟧ ∣ leaf (kill j) ∣ po! v))) ∣ stop)) (killing 17)
    (new k ((new n (new x (𝟘 ∣ ⟦ qo! n ⟧)) ∣ rep (new j (⟦ stop ⟧ ∣ 𝟘 ∣ 𝟘))) ∣ 𝟘)) (0 ∷ 1 ∷ 0 ∷ 2 ∷ [])
    -- M24: a protection and a delimitation of another atom on the way shelter nothing and stay; outside [k] nothing is halted
    ∷ accepted ((po! v ∣ new k (qo! v ∣ new j (⟦ po! v ∣ new n (stop ∣ qo! n) ⟧ ∣ po? v))) ∣ qo! v) (killing 13)
    ((po! v ∣ new k (𝟘 ∣ new j (⟦ 𝟘 ∣ new n (𝟘 ∣ 𝟘) ⟧ ∣ 𝟘))) ∣ qo! v) (0 ∷ 1 ∷ 0 ∷ 2 ∷ [])
    -- Communicate.
    -- M25: 12 looks at the count, from both sides, at partner, operation and each value, and at a variable that is sent
    ∷ night (new x (receive? 1 2 (x ∷ v ∷ []) 𝟘 ∣ offers x ∣ invoke! 1 2 (n ∷ v ∷ [])))
    (meeting 2 6 ∷ meeting 2 8 ∷ meeting 2 10 ∷ meeting 2 12 ∷ meeting 2 14 ∷ meeting 2 15 ∷ meeting 2 16 ∷ [])
    (says 12 2 17 ∷ says 12 2 17 ∷ says 12 1 17 ∷ says 12 1 17 ∷ says 12 4 17 ∷ says 12 0 17 ∷ says 0 0 15 ∷ []) (𝟘 ∣ offers n ∣ 𝟘) (1 ∷ 0 ∷ 0 ∷ 6 ∷ [])
    -- M52: 12's place is the lowest that differs: 0 a variable in the endpoint or the tuple, also where endpoint or count differ or the pattern has one;
    -- 1 before 2 and the values; 2 before the values; 3 to 6, the first value of the pattern that differs, its variables passed over
    ∷ refused (new x (receive? 1 2 (v ∷ v ∷ x ∷ v ∷ []) 𝟘 ∣ receive? 1 2 (x ∷ v ∷ v ∷ v ∷ []) 𝟘 ∣ unlike))
    (map (meeting 2) (8 ∷ 10 ∷ 12 ∷ 14 ∷ 16 ∷ 18 ∷ 20 ∷ 22 ∷ 24 ∷ 26 ∷ 27 ∷ []) ++ map (meeting 5) (24 ∷ 27 ∷ []))
    (map (λ d. says 12 d 28) (0 ∷ 0 ∷ 0 ∷ 0 ∷ 0 ∷ 1 ∷ 1 ∷ 2 ∷ 3 ∷ 4 ∷ 6 ∷ 4 ∷ 5 ∷ [])) 13
    -- M26: 13 looks at every variable, and each takes the value at its own place
    ∷ night (new x (new y (new z (receive? 1 2 (x ∷ v ∷ y ∷ z ∷ []) (invoke! 3 2 (x ∷ y ∷ z ∷ []))) ∣ invoke! 1 2 (6 ∷ v ∷ n ∷ 7 ∷ []))))
    (meeting 4 6 ∷ float 3 ∷ meeting 4 6 ∷ []) (says 13 4 7 ∷ says 0 0 7 ∷ says 0 0 3 ∷ []) (invoke! 3 2 (6 ∷ n ∷ 7 ∷ []) ∣ 𝟘) (1 ∷ 0 ∷ 0 ∷ 1 ∷ [])
    -- M27: 13 comes before 14, and 14 before 15
    ∷ night (new k (stop ∣ new x (po? x) ∣ po! v ∣ po? v)) (meeting 5 8 ∷ float 4 ∷ meeting 5 8 ∷ []) (says 13 5 11 ∷ says 0 0 11 ∷ says 14 0 11 ∷ [])
    (new k (stop ∣ new x (po? x ∣ po! v ∣ po? v))) (0 ∷ 0 ∷ 0 ∷ 4 ∷ [])
    -- M28: 14 names the [k] of the ready kill, not a delimitation of another label around it
    ∷ refused (new j (new k (stop ∣ po? v ∣ po! v))) (meeting 5 7 ∷ []) (says 14 1 8 ∷ []) 3
    -- M29: of two such delimitations it names the first, not the nearest
    ∷ refused (new k (stop ∣ new j (leaf (kill j) ∣ po? v ∣ po! v))) (meeting 7 9 ∷ []) (says 14 0 10 ∷ []) 4
    -- M30: a kill that is not ready holds nothing back
    ∷ accepted (new k (wait_for 1 stop ∣ po? v ∣ po! v)) (meeting 5 7) (new k (wait_for 1 stop ∣ 𝟘 ∣ 𝟘)) (1 ∷ 0 ∷ 0 ∷ 2 ∷ [])
    -- M31: 15 names the first of two tighter receives
    ∷ refused (new x (po! v ∣ po? x ∣ po? v ∣ rep (po? v))) (meeting 4 2 ∷ []) (says 15 7 12 ∷ []) 4
    -- M32: 15 leaves out receives with as many variables, on another endpoint, of other values or counts, and not ready ones
    ∷ accepted (new x (new y (po! v ∣ po? x ∣ others))) (meeting 5 3) (new y (𝟘 ∣ 𝟘 ∣ others)) (1 ∷ 0 ∷ 0 ∷ 7 ∷ [])
    -- M33: the receive goes with the whole choice around it, however it stands in it; what stands outside [x] stays
    ∷ accepted (qo! v ∣ new n ⟦ new x (⟦ wait_for 3 𝟘 ⊕ (receive? 3 3 (v ∷ []) 𝟘 ⊕ po?then x (qo! x)) ⊕ wait_for 4 𝟘 ⟧ ∣ po! v) ∣ qo! n ⟧) (meeting 15 19)
    (qo! v ∣ new n ⟦ (⟦ qo! v ⟧ ∣ 𝟘) ∣ qo! n ⟧) (1 ∷ 0 ∷ 0 ∷ 3 ∷ [])
    -- M34: the value replaces the variable in partner, operation and tuple, in protected, replicated and dormant parts
    ∷ accepted (new x (po! v ∣ po? x ∣ uses x) ∣ new 6 (invoke! 6 6 [])) (meeting 5 3) ((𝟘 ∣ 𝟘 ∣ uses v) ∣ new 6 (invoke! 6 6 [])) (1 ∷ 0 ∷ 0 ∷ 8 ∷ [])
    -- Timeout.
    -- M35: 16 asks for an interval of 0; only the choice around the wait goes, and the continuation stays
    ∷ night (((wait_for 1 𝟘 ⊕ wait_for 0 (qo! v)) ⊕ po?then v (po! v)) ∣ ⟦ wait_for 0 𝟘 ⟧) (expiry 3 ∷ expiry 5 ∷ []) (says 16 3 12 ∷ says 0 0 5 ∷ [])
    (qo! v ∣ ⟦ wait_for 0 𝟘 ⟧) (0 ∷ 0 ∷ 1 ∷ 2 ∷ [])
    -- Elapse.
    -- M36: time lowers the waits in protections, delimitations and choices, on both sides; those behind a wait or a receive and under a replication keep theirs
    ∷ accepted
    (new k (wait_for 5 (wait_for 2 𝟘) ∣ ⟦ wait_for 6 𝟘 ⟧ ∣ new n (wait_for 7 (qo! n)) ∣ (wait_for 8 𝟘 ⊕ po?then v (wait_for 1 𝟘) ⊕ wait_for 9 𝟘) ∣ rep ⟦ wait_for 1 𝟘 ⟧ ∣ stop ∣ po! v))
    (time 5)
    (new k (wait_for 0 (wait_for 2 𝟘) ∣ ⟦ wait_for 1 𝟘 ⟧ ∣ new n (wait_for 2 (qo! n)) ∣ (wait_for 3 𝟘 ⊕ po?then v (wait_for 1 𝟘) ⊕ wait_for 4 𝟘) ∣ rep ⟦ wait_for 1 𝟘 ⟧ ∣ stop ∣ po! v))
    (0 ∷ 0 ∷ 0 ∷ 12 ∷ [])
    -- M37: 17 refuses a time of 0, at place 0, and no other; a wait in a choice falls to 0 too
    ∷ night (⟦ 𝟘 ⟧ ∣ (po?then v (wait_for 1 𝟘) ⊕ wait_for 4 𝟘)) (time 0 ∷ time 1 ∷ time 65535 ∷ []) (says 17 0 9 ∷ says 0 0 9 ∷ says 0 0 9 ∷ [])
    (⟦ 𝟘 ⟧ ∣ (po?then v (wait_for 1 𝟘) ⊕ wait_for 0 𝟘)) (0 ∷ 0 ∷ 0 ∷ 3 ∷ [])
    -- Unfold.
    -- M38: a new value is sought from 1, a new variable from 32768, a new label from 49152
    ∷ accepted (rep (three 3 y j)) (unfolding_at 0) (three 1 x k ∣ rep (three 3 y j)) (0 ∷ 0 ∷ 0 ∷ 4 ∷ [])
    -- M39: atoms of the whole table are taken, used or delimited, dormant ones too; an interval is no atom; the left side chooses first
    ∷ accepted (rep (new 6 (invoke! 6 6 []) ∣ new 7 (invoke! 7 7 [])) ∣ wait_for 4 (invoke! 1 2 []) ∣ new 3 𝟘) (unfolding_at 1)
    (((new n (invoke! n n []) ∣ new v (invoke! v v [])) ∣ rep (new 6 (invoke! 6 6 []) ∣ new 7 (invoke! 7 7 []))) ∣ wait_for 4 (invoke! 1 2 []) ∣ new 3 𝟘)
    (0 ∷ 0 ∷ 0 ∷ 6 ∷ [])
    -- M40: the copy is renamed in every field and every part; an atom that is delimited outside the body stays
    ∷ accepted (⟦ new n (po? n ∣ rep (body 6 x)) ⟧) (unfolding_at 5) (⟦ new n (po? n ∣ body 3 y ∣ rep (body 6 x)) ⟧) (0 ∷ 0 ∷ 0 ∷ 9 ∷ [])
    -- Extrude.
    -- M41: a delimitation floats over a delimitation, out of a left and a right side, and over a protection; at the root it stays
    ∷ night (⟦ qo! v ∣ new k (new n (po! n)) ∣ 𝟘 ⟧) (float 5 ∷ float 4 ∷ float 3 ∷ float 1 ∷ float 0 ∷ [])
    (says 0 0 8 ∷ says 0 0 8 ∷ says 0 0 8 ∷ says 0 0 8 ∷ says 18 0 8 ∷ []) (new n ⟦ qo! v ∣ new k (po! n) ∣ 𝟘 ⟧) (0 ∷ 0 ∷ 0 ∷ 2 ∷ [])
    -- M42: 18: a label does not float; a variable does
    ∷ night (new k stop ∣ new x (po? x)) (float 1 ∷ float 3 ∷ []) (says 18 1 6 ∷ says 0 0 6 ∷ []) (new x (new k stop ∣ po? x)) (0 ∷ 0 ∷ 0 ∷ 2 ∷ [])
    -- Kinds.
    -- M43: a kill behind a receive is not ready
    ∷ accepted (new k (receive? 3 3 [] stop ∣ po? v ∣ po! v)) (meeting 5 7) (new k (receive? 3 3 [] stop ∣ 𝟘 ∣ 𝟘)) (1 ∷ 0 ∷ 0 ∷ 2 ∷ [])
    -- M44: one in a protection is
    ∷ refused (new k (⟦ stop ⟧ ∣ po? v ∣ po! v)) (meeting 5 7 ∷ []) (says 14 0 8 ∷ []) 3
    -- M45: and so is a receive in a choice
    ∷ refused (new x (po! v ∣ po? x ∣ (po? v ⊕ 𝟘))) (meeting 4 2 ∷ []) (says 15 7 10 ∷ []) 3
    -- M46 to M51: 5: a kill, an invoke, a parallel, a protection, a delimitation, a replication is no guard
    ∷ map unguarded (stop ∷ po! v ∷ (𝟘 ∣ 𝟘) ∷ ⟦ 𝟘 ⟧ ∷ new n 𝟘 ∷ rep 𝟘 ∷ [])

pub misreadings_right : T (every right_night misreadings)
unfolding misreadings open_all
misreadings_right = tt
