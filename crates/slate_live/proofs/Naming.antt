-- What a command that names an object did, by the object's kind.
use Rattle.std.proofs.Common.{◌≡◌, ℕ, set, Option, Some, subst}
use Rattle.slate_model.specs.Follower.{Follower}
use Rattle.slate_model.specs.Handle.{Handle}
use Rattle.slate_model.specs.Object.{Object, Handle as AHandle, Snapshot as ASnapshot, Follower as AFollower}
use Rattle.slate_script.specs.declared.commands.Command.{Command}
use Rattle.slate_script.specs.declared.replies.Reply.{Reply}
use Rattle.slate_live.specs.Calls.{Call}
use Rattle.slate_live.specs.Commands.{Acts, ActsAt, ActsOn}
use Rattle.slate_live.specs.Followers.{FollowerActs}
use Rattle.slate_live.specs.Handles.{HandleActs}
use Rattle.slate_live.specs.Settings.{Settings}
use Rattle.slate_live.specs.State.{State}
use Rattle.slate_model.specs.Knowledge.{Knowledge}

module _ {L : Type 0} (k : Knowledge L) (settings : Settings) (n : ℕ) (command : Command) (call : Call) (made : ℕ) (s : State L) (reply : Reply) (s' : State L) where
  pub record HandleDid (h : Handle) : Type 0 where
    pub new : Handle
    pub acts : HandleActs k settings n command.moment command.second call made h s.store s.writes reply new s'.store s'.writes
    pub objects : s'.objects ≡ set s.objects n (AHandle new)

  pub record FollowerDid (f : Follower) : Type 0 where
    pub new : Follower
    pub acts : FollowerActs k settings command.moment call made f s.store s.writes reply new s'.store s'.writes
    pub objects : s'.objects ≡ set s.objects n (AFollower new)

  handle-by : (h : Handle) (new : Object) → Acts k settings n command call made (AHandle h) s.store s.writes reply new s'.store s'.writes → s'.objects ≡ set s.objects n new → HandleDid h
  handle-by h (AHandle h') acts objects = record { new = h'; acts = acts; objects = objects }
  handle-by h (ASnapshot x) acts objects = absurd acts
  handle-by h (AFollower f) acts objects = absurd acts

  follower-by : (f : Follower) (new : Object) → Acts k settings n command call made (AFollower f) s.store s.writes reply new s'.store s'.writes → s'.objects ≡ set s.objects n new → FollowerDid f
  follower-by f (AFollower f') acts objects = record { new = f'; acts = acts; objects = objects }
  follower-by f (ASnapshot x) acts objects = absurd acts
  follower-by f (AHandle h) acts objects = absurd acts

  pub handle-acted : (h : Handle) → ActsAt k settings n command call made (AHandle h) s reply s' → HandleDid h
  handle-acted h a = handle-by h a.new a.acts a.objects

  pub handle-did : (found : Option Object) (h : Handle) → found ≡ Some (AHandle h) → ActsOn k settings n command call made found s reply s' → HandleDid h
  handle-did found h at acts = handle-acted h (subst (λ x. ActsOn k settings n command call made x s reply s') at acts)

  pub follower-did : (found : Option Object) (f : Follower) → found ≡ Some (AFollower f) → ActsOn k settings n command call made found s reply s' → FollowerDid f
  follower-did found f at acts =
      let a : ActsAt k settings n command call made (AFollower f) s reply s' = subst (λ x. ActsOn k settings n command call made x s reply s') at acts in
      follower-by f a.new a.acts a.objects
