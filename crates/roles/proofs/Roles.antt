-- What a role says (specs/Roles): each role stands for what it is to stand for.
use mathlib.Core.Path.{◌≡◌, refl, sym, ◌∙◌}
use mathlib.Core.Bool.{Bool, true, false, cond, not, ◌&&◌, ◌||◌}
use Prim.Native.Nat.{ℕ, ◌+◌, ◌<◌}
use lib.Dec.{leb, ltb, eqb}
use borrow.Author.Tests.{lt-ltb}
use Rattle.cows.specs.Limits.{max_records}
use Rattle.cows.specs.Basics.{found_with, found, only}
use Rattle.cows.specs.Terms.{nil, kill, invoke, receive, wait, protection, delimitation, replication, Term, leaf, under, both, size, kills, invokes, prefixed, receives, waits, delimits, replicates, label}
use Rattle.cows.specs.Kinds.{root}
use Rattle.cows.specs.Places.{way_to, sub, first}
use Rattle.cows.specs.Active.{live, ready}
use Rattle.cows.specs.Moves.{closed_action, ready_kill}
use Rattle.cows.proofs.Basics.{bool_case, and_none, and_one, or_none}
use Rattle.cows.proofs.Scans.{live-ready}
use Rattle.roles.specs.declared.Role.{Role}
use Rattle.roles.specs.declared.Role.TheVariants.{Idle, Kill, Timeout, Unfold, Extrude, Sender, Receiver, Rival, Holder}
use Rattle.roles.proofs.Same.{eq-is_role, ne-is_role, role_case}
use Rattle.roles.specs.Roles.{is_role, seen, unheld, holding, full, crowded, firing, expiring, repeating, floating, sending, receiving, rivalling, ready_role, live_role, role_of, deepens, open_role}

-- neither of two numbers is k, or the first one is
neither : (b : Bool) (x y k : Role) → is_role x k ≡ false → is_role y k ≡ false → is_role (cond b x y) k ≡ false
neither true x y k p q = p
neither false x y k p q = q

either : (b : Bool) (x y k : Role) → is_role x k ≡ true → is_role y k ≡ false → is_role (cond b x y) k ≡ b
either true x y k p q = p
either false x y k p q = q

and_swap : (a b : Bool) → (a && b) ≡ (b && a)
and_swap true b = sym (and_one b)
and_swap false b = sym (and_none b)

module _ (t : Term) (n : ℕ) where
  -- depth takes away roles Unfold and Extrude only
  kept : (r k : Role) → is_role Idle k ≡ false → is_role Unfold k ≡ false → is_role Extrude k ≡ false → is_role (cond (deepens t n r) Idle r) k ≡ is_role r k
  unfolding deepens
  kept r k a b c =
      role_case (is_role (cond (deepens t n r) Idle r) k ≡ is_role r k) r Unfold
      (λ e. rw e (neither (full t n || false) Idle Unfold k a b ∙ sym b))
      (λ e. role_case (is_role (cond (deepens t n r) Idle r) k ≡ is_role r k) r Extrude (λ f. rw f (neither (crowded t n) Idle Extrude k a c ∙ sym c)) (λ f. rw (ne-is_role r Unfold e, ne-is_role r Extrude f)))

  lost : (r k : Role) → is_role Idle k ≡ false → is_role (cond (deepens t n r) Idle r) k ≡ (is_role r k && not (deepens t n k))
  lost r k a =
      role_case (is_role (cond (deepens t n r) Idle r) k ≡ (is_role r k && not (deepens t n k))) r k
      (λ e. rw (e, eq-is_role k k refl) (unless (deepens t n k) (eq-is_role k k refl)))
      (λ e. rw (ne-is_role r k e) (neither (deepens t n r) Idle r k a (ne-is_role r k e)))
    where
      unless : (b : Bool) → is_role k k ≡ true → is_role (cond b Idle k) k ≡ not b
      unless true e = a
      unless false e = e

  -- what is not live has a role against meetings, or none
  unlive : (k : Role) → is_role Holder k ≡ false → is_role Rival k ≡ false → is_role Idle k ≡ false → is_role (ready_role t n) k ≡ false
  unfolding ready_role
  unlive k a b c = neither (holding t n) Holder _ k a (neither (rivalling t n) Rival Idle k b c)

  kills-live : (b : Bool) (s : Term) → is_role (cond b (live_role t n (root s)) (ready_role t n)) Kill ≡ found (only b (kills s))
  unfolding live_role root kills found only
  kills-live false s = unlive Kill refl refl refl
  kills-live true (leaf nil) = refl
  kills-live true (leaf (kill k)) = refl
  kills-live true (leaf (invoke p o ws)) = neither (unheld t n && closed_action (record { partner = p; operation = o; tuple = ws })) Sender Idle Kill refl refl
  kills-live true (under (receive p o ws) c) = neither (unheld t n) Receiver Rival Kill refl refl
  kills-live true (under (wait i) c) = neither (eqb i 0) Timeout Idle Kill refl refl
  kills-live true (under protection c) = refl
  kills-live true (under (delimitation d) c) = neither (label d) (ready_role t n) (cond (ltb 0 n) Extrude Idle) Kill (unlive Kill refl refl refl) (neither (ltb 0 n) Extrude Idle Kill refl refl)
  kills-live true (under replication c) = neither (leb (size t + size (sub t n)) max_records) Unfold Idle Kill refl refl
  kills-live true (both j x y) = refl

  waits-live : (b : Bool) (s : Term) → is_role (cond b (live_role t n (root s)) (ready_role t n)) Timeout ≡ found_with (λ i. eqb i 0) (only b (prefixed waits s))
  unfolding live_role root prefixed waits found_with only
  waits-live false s = unlive Timeout refl refl refl
  waits-live true (leaf nil) = refl
  waits-live true (leaf (kill k)) = refl
  waits-live true (leaf (invoke p o ws)) = neither (unheld t n && closed_action (record { partner = p; operation = o; tuple = ws })) Sender Idle Timeout refl refl
  waits-live true (under (receive p o ws) c) = neither (unheld t n) Receiver Rival Timeout refl refl
  waits-live true (under (wait i) c) = either (eqb i 0) Timeout Idle Timeout refl refl
  waits-live true (under protection c) = refl
  waits-live true (under (delimitation d) c) = neither (label d) (ready_role t n) (cond (ltb 0 n) Extrude Idle) Timeout (unlive Timeout refl refl refl) (neither (ltb 0 n) Extrude Idle Timeout refl refl)
  waits-live true (under replication c) = neither (leb (size t + size (sub t n)) max_records) Unfold Idle Timeout refl refl
  waits-live true (both j x y) = refl

  copies-live : (b : Bool) (s : Term) → is_role (cond b (live_role t n (root s)) (ready_role t n)) Unfold ≡ (found (only b (prefixed replicates s)) && leb (size t + size (sub t n)) max_records)
  unfolding live_role root prefixed replicates found only
  copies-live false s = unlive Unfold refl refl refl
  copies-live true (leaf nil) = refl
  copies-live true (leaf (kill k)) = refl
  copies-live true (leaf (invoke p o ws)) = neither (unheld t n && closed_action (record { partner = p; operation = o; tuple = ws })) Sender Idle Unfold refl refl
  copies-live true (under (receive p o ws) c) = neither (unheld t n) Receiver Rival Unfold refl refl
  copies-live true (under (wait i) c) = neither (eqb i 0) Timeout Idle Unfold refl refl
  copies-live true (under protection c) = refl
  copies-live true (under (delimitation d) c) = neither (label d) (ready_role t n) (cond (ltb 0 n) Extrude Idle) Unfold (unlive Unfold refl refl refl) (neither (ltb 0 n) Extrude Idle Unfold refl refl)
  copies-live true (under replication c) = either (leb (size t + size (sub t n)) max_records) Unfold Idle Unfold refl refl
  copies-live true (both j x y) = refl

  floats : (b : Bool) → is_role (cond b (ready_role t n) (cond (ltb 0 n) Extrude Idle)) Extrude ≡ (not b && ltb 0 n)
  floats true = unlive Extrude refl refl refl
  floats false = either (ltb 0 n) Extrude Idle Extrude refl refl

  floats_live : (b : Bool) (s : Term) → is_role (cond b (live_role t n (root s)) (ready_role t n)) Extrude ≡ (found_with (λ d. not (label d)) (only b (prefixed delimits s)) && ltb 0 n)
  unfolding live_role root prefixed delimits found_with only
  floats_live false s = unlive Extrude refl refl refl
  floats_live true (leaf nil) = refl
  floats_live true (leaf (kill k)) = refl
  floats_live true (leaf (invoke p o ws)) = neither (unheld t n && closed_action (record { partner = p; operation = o; tuple = ws })) Sender Idle Extrude refl refl
  floats_live true (under (receive p o ws) c) = neither (unheld t n) Receiver Rival Extrude refl refl
  floats_live true (under (wait i) c) = neither (eqb i 0) Timeout Idle Extrude refl refl
  floats_live true (under protection c) = refl
  floats_live true (under (delimitation d) c) = floats (label d)
  floats_live true (under replication c) = neither (leb (size t + size (sub t n)) max_records) Unfold Idle Extrude refl refl
  floats_live true (both j x y) = refl

  sends-live : (b : Bool) (s : Term) → is_role (cond b (live_role t n (root s)) (ready_role t n)) Sender ≡ (found_with closed_action (only b (invokes s)) && unheld t n)
  unfolding live_role root invokes found_with only
  sends-live false s = unlive Sender refl refl refl
  sends-live true (leaf nil) = refl
  sends-live true (leaf (kill k)) = refl
  sends-live true (leaf (invoke p o ws)) = either (unheld t n && closed_action (record { partner = p; operation = o; tuple = ws })) Sender Idle Sender refl refl ∙ and_swap (unheld t n) _
  sends-live true (under (receive p o ws) c) = neither (unheld t n) Receiver Rival Sender refl refl
  sends-live true (under (wait i) c) = neither (eqb i 0) Timeout Idle Sender refl refl
  sends-live true (under protection c) = refl
  sends-live true (under (delimitation d) c) = neither (label d) (ready_role t n) (cond (ltb 0 n) Extrude Idle) Sender (unlive Sender refl refl refl) (neither (ltb 0 n) Extrude Idle Sender refl refl)
  sends-live true (under replication c) = neither (leb (size t + size (sub t n)) max_records) Unfold Idle Sender refl refl
  sends-live true (both j x y) = refl

  receives-live : (b : Bool) (s : Term) → is_role (cond b (live_role t n (root s)) (ready_role t n)) Receiver ≡ (found (only b (prefixed receives s)) && unheld t n)
  unfolding live_role root prefixed receives found only
  receives-live false s = unlive Receiver refl refl refl
  receives-live true (leaf nil) = refl
  receives-live true (leaf (kill k)) = refl
  receives-live true (leaf (invoke p o ws)) = neither (unheld t n && closed_action (record { partner = p; operation = o; tuple = ws })) Sender Idle Receiver refl refl
  receives-live true (under (receive p o ws) c) = either (unheld t n) Receiver Rival Receiver refl refl
  receives-live true (under (wait i) c) = neither (eqb i 0) Timeout Idle Receiver refl refl
  receives-live true (under protection c) = refl
  receives-live true (under (delimitation d) c) = neither (label d) (ready_role t n) (cond (ltb 0 n) Extrude Idle) Receiver (unlive Receiver refl refl refl) (neither (ltb 0 n) Extrude Idle Receiver refl refl)
  receives-live true (under replication c) = neither (leb (size t + size (sub t n)) max_records) Unfold Idle Receiver refl refl
  receives-live true (both j x y) = refl

  -- a receive that is a party is a rival too; a delimitation is no receive
  unheld_rival : (b : Bool) → (is_role (cond b Receiver Rival) Receiver || is_role (cond b Receiver Rival) Rival) ≡ true
  unheld_rival true = refl
  unheld_rival false = refl

  ready_rival : (is_role (ready_role t n) Receiver || is_role (ready_role t n) Rival) ≡ rivalling t n
  unfolding ready_role holding rivalling found_with prefixed delimits receives found
  ready_rival = go (sub t n)
    where
      rest : (b : Bool) → (is_role (cond b Rival Idle) Receiver || is_role (cond b Rival Idle) Rival) ≡ b
      rest true = refl
      rest false = refl

      held : (a b : Bool) → (is_role (cond a Holder (cond (b && false) Rival Idle)) Receiver || is_role (cond a Holder (cond (b && false) Rival Idle)) Rival) ≡ (b && false)
      held true b = sym (and_none b)
      held false b = rest (b && false)

      go : (s : Term) → (let h = found_with (λ k. found (first (ready_kill k) t)) (prefixed delimits s) in let r = ready (way_to t n) && found (prefixed receives s) in (is_role (cond h Holder (cond r Rival Idle)) Receiver || is_role (cond h Holder (cond r Rival Idle)) Rival) ≡ r)
      go (leaf x) = rest (ready (way_to t n) && false)
      go (under (receive p o ws) c) = rest (ready (way_to t n) && true)
      go (under (wait i) c) = rest (ready (way_to t n) && false)
      go (under protection c) = rest (ready (way_to t n) && false)
      go (under (delimitation d) c) = held (found (first (ready_kill d) t)) (ready (way_to t n))
      go (under replication c) = rest (ready (way_to t n) && false)
      go (both j x y) = rest (ready (way_to t n) && false)

  quiet : (d : ℕ) (c : Term) → sub t n ≡ under (delimitation d) c → rivalling t n ≡ false
  unfolding rivalling prefixed receives found
  quiet d c e = rw e (and_none (ready (way_to t n)))

  rivals_live : live (way_to t n) ≡ true → (s : Term) → sub t n ≡ s → (is_role (live_role t n (root s)) Receiver || is_role (live_role t n (root s)) Rival) ≡ found (prefixed receives s)
  unfolding live_role root prefixed receives found
  rivals_live v s e = go s e
    where
      no : (b : Bool) (x : Role) → is_role x Receiver ≡ false → is_role x Rival ≡ false → (is_role (cond b x Idle) Receiver || is_role (cond b x Idle) Rival) ≡ false
      no true x p q = rw (p, q)
      no false x p q = refl

      bound : (b : Bool) (d : ℕ) (c : Term) → sub t n ≡ under (delimitation d) c → (is_role (cond b (ready_role t n) (cond (ltb 0 n) Extrude Idle)) Receiver || is_role (cond b (ready_role t n) (cond (ltb 0 n) Extrude Idle)) Rival) ≡ false
      bound true d c e = ready_rival ∙ quiet d c e
      bound false d c e = no (ltb 0 n) Extrude refl refl

      go : (s : Term) → sub t n ≡ s → (is_role (live_role t n (root s)) Receiver || is_role (live_role t n (root s)) Rival) ≡ found (prefixed receives s)
      go (leaf nil) e = refl
      go (leaf (kill k)) e = refl
      go (leaf (invoke p o ws)) e = no (unheld t n && closed_action (record { partner = p; operation = o; tuple = ws })) Sender refl refl
      go (under (receive p o ws) c) e = unheld_rival (unheld t n)
      go (under (wait i) c) e = no (eqb i 0) Timeout refl refl
      go (under protection c) e = refl
      go (under (delimitation d) c) e = bound (label d) d c e
      go (under replication c) e = no (leb (size t + size (sub t n)) max_records) Unfold refl refl
      go (both j x y) e = refl

  -- The roles of the place n of t.
  module _ (l : n < size t) where
    placed : ltb n (size t) ≡ true
    placed = lt-ltb n (size t) l

    pub role_kill : is_role (open_role t n) Kill ≡ firing t n
    unfolding open_role role_of firing seen
    role_kill = kept (role_of t n) Kill refl refl refl ∙ rw placed (kills-live (live (way_to t n)) (sub t n))

    pub role_timeout : is_role (open_role t n) Timeout ≡ expiring t n
    unfolding open_role role_of expiring seen
    role_timeout = kept (role_of t n) Timeout refl refl refl ∙ rw placed (waits-live (live (way_to t n)) (sub t n))

    pub role_unfold : is_role (open_role t n) Unfold ≡ (repeating t n && not (full t n))
    unfolding open_role role_of repeating seen deepens
    role_unfold = lost (role_of t n) Unfold refl ∙ rw (or_none (full t n), placed, copies-live (live (way_to t n)) (sub t n))

    pub role_extrude : is_role (open_role t n) Extrude ≡ (floating t n && not (crowded t n))
    unfolding open_role role_of floating seen deepens
    role_extrude = lost (role_of t n) Extrude refl ∙ rw (placed, floats_live (live (way_to t n)) (sub t n))

    pub role_sender : is_role (open_role t n) Sender ≡ sending t n
    unfolding open_role role_of sending seen
    role_sender = kept (role_of t n) Sender refl refl refl ∙ rw placed (sends-live (live (way_to t n)) (sub t n))

    pub role_receiver : is_role (open_role t n) Receiver ≡ receiving t n
    unfolding open_role role_of receiving seen
    role_receiver = kept (role_of t n) Receiver refl refl refl ∙ rw placed (receives-live (live (way_to t n)) (sub t n))

    pub role_rival : (is_role (open_role t n) Receiver || is_role (open_role t n) Rival) ≡ rivalling t n
    unfolding open_role role_of rivalling
    role_rival = rw (kept (role_of t n) Receiver refl refl refl, kept (role_of t n) Rival refl refl refl) (bool_case _ (live (way_to t n))
        (λ v. rw v (rivals_live v (sub t n) refl ∙ rw (live-ready (way_to t n) v)))
        (λ v. rw v ready_rival))
