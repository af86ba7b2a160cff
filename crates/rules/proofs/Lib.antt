mod ThreadingLaws
